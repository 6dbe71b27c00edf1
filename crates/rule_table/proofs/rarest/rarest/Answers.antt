use Rattle.std.proofs.Common.{List, Option, ℕ, subst, arith}
use Rattle.std.proofs.lemmas.List.{take_all}
use Rattle.rule_table.specs.Marks.{present}
use Rattle.rule_table.proofs.RarestLaws.{IsOneOf, one_more}
use Rattle.rule_table.proofs.rarest.rarest.Goals as goal

pub loop-mark-preserved : goal.loop-mark-preserved
loop-mark-preserved c = one_more c.args.marks.now c.loop-mark.mark-index _ c.loop-mark.best c.rarer-best.result (omega arith) c.loop-mark.invariant c.rarer-best.ensures

pub returns : goal.returns
returns c =
    let P : List (Option ℕ) → Type 0 = λ marks. IsOneOf (present marks) c.loop-mark.best in
    subst P (take_all c.loop-mark.mark-index c.args.marks.now (omega arith)) c.loop-mark.invariant
