use Rattle.std.proofs.Common.{sym}
use Rattle.std.proofs.lemmas.Result.{err_from_is_err_and}
use Rattle.journal_files.proofs.Answering.{entry_fails_in, past_fails_in}
use Rattle.journal_files.proofs.reading.entry_in.Goals as goal

pub returns-in_err-entry-clause-err : goal.returns-in_err-entry-clause-err
returns-in_err-entry-clause-err c =
    let p = err_from_is_err_and c.from_residual.result c.from_residual.ensures.1 in
    rw (p.1, p.2) (entry_fails_in c.args.count c.args.octets c.args.held.now c.in_err-entry.field-0.0 c.in_err-entry.ensures.read)

pub returns-then-is_past-clause-err : goal.returns-then-is_past-clause-err
returns-then-is_past-clause-err c =
    past_fails_in c.args.count c.args.octets c.args.held.now c.in_ok-entry.field-0-1.now c.in_ok-entry.entry c.in_ok-entry.ensures.read.0 (sym c.if-is_past.ensures)
