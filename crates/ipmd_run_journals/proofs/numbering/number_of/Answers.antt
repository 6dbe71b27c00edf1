use Rattle.std.proofs.Common.{sym, ◌∙◌, true≢false, arith}
use Rattle.ipmd_run_journals.proofs.Names.{longer, begins, dotted}
use Rattle.ipmd_run_journals.proofs.numbering.number_of.Goals as goal
use Rattle.ipmd_run_journals.proofs.numbering.number_of.Goals.{else-dot-name-via-then-dot-name+then-is_word+else-name-dot-eq46, else-dot-name-via-then-dot-name+else-is_word, else-dot-name-via-else-dot-name}

pub returns-else-dot-name : goal.returns-else-dot-name
returns-else-dot-name c = record {
  only = λ n few is. absurd (elim c.else-dot-name.branch [
    | else-dot-name-via-then-dot-name+then-is_word+else-name-dot-eq46 w ↦ w.if-name-dot-eq46.false (dotted c.args.base.now c.args.name.now n is)
    | else-dot-name-via-then-dot-name+else-is_word w ↦ true≢false (sym (begins c.args.base.now c.args.name.now n is) ∙ sym w.is_word.ensures ∙ w.if-is_word.false)
    | else-dot-name-via-else-dot-name w ↦ omega (arith, w.if-dot-name.false, longer c.args.base.now c.args.name.now n is)
  ]);
}
