use Rattle.std.proofs.Common.{arith, ◌∙◌, sym}
use Rattle.std.proofs.lemmas.Result.{err_from_is_err_and}
use Rattle.journal_files.proofs.ReadingSteps.{entry_more, entry_fails, push_fails, all_read, more_left}
use Rattle.journal_files.proofs.decoding.put_entries.Goals as goal

pub returns-in_err-entry-clause-read : goal.returns-in_err-entry-clause-read
returns-in_err-entry-clause-read c =
    let p = err_from_is_err_and c.from_residual.result c.from_residual.ensures.1 in
    rw (p.1, p.2) (entry_fails c.entries.journal.entries c.entries.left c.entries.rest.now _ c.in_err-entry.field-0.0 c.entries-test.true c.in_err-entry.ensures.read c.entries.invariant.read)

pub returns-in_err-put_entry-clause-read : goal.returns-in_err-put_entry-clause-read
returns-in_err-put_entry-clause-read c =
    let p = err_from_is_err_and c.from_residual-in_err-put_entry.result c.from_residual-in_err-put_entry.ensures.1 in
    rw (p.1, p.2) (push_fails c.entries.journal.entries c.entries.left c.entries.rest.now c.in_ok-entry.after.now c.in_ok-entry.entry _ c.in_err-put_entry.field-0.0 c.entries-test.true c.in_ok-entry.ensures.read.0 c.in_err-put_entry.ensures.pushed c.entries.invariant.read)

pub entries-preserved : goal.entries-preserved
entries-preserved c = record {
  limits = c.in_ok-put_entry.ensures.limits ∙ c.entries.invariant.limits;
  read = sym (entry_more c.entries.journal.entries c.put_entry.new.journal.entries c.entries.left c.entries.rest.now c.in_ok-entry.after.now c.in_ok-entry.entry c.entries-test.true c.in_ok-entry.ensures.read.0 c.in_ok-put_entry.ensures.pushed.0) ∙ c.entries.invariant.read;
}

pub returns-then-is_empty-clause-read : goal.returns-then-is_empty-clause-read
returns-then-is_empty-clause-read c =
    (all_read c.entries.journal.entries c.entries.left c.entries.rest.now _ (omega (arith, c.entries-test.false)) (sym c.if-is_empty.ensures) c.entries.invariant.read, tt)

pub returns-else-is_empty-clause-read : goal.returns-else-is_empty-clause-read
returns-else-is_empty-clause-read c =
    (more_left c.entries.journal.entries c.entries.left c.entries.rest.now _ (omega (arith, c.entries-test.false)) (sym c.if-is_empty.ensures) c.entries.invariant.read, tt)
