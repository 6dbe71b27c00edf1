use Rattle.std.proofs.lemmas.Result.{err_from_is_err_and}
use Rattle.journal_files.proofs.Stopping.{head_stops}
use Rattle.journal_files.proofs.reading.JournalReader.start.Goals as goal

pub returns-in_err-left-clause-err : goal.returns-in_err-left-clause-err
returns-in_err-left-clause-err g c =
    let p = err_from_is_err_and c.from_residual-in_err-left.result c.from_residual-in_err-left.ensures.1 in
    rw (p.1, p.2) (head_stops c.in_err-left.field-0.0 _ _ c.new-held.result.items c.fill.new.held.items c.as_slice.result.now c.in_ok-fill.field-0 _ _ c.as_slice.ensures.value c.in_err-left.ensures.read c.new-held.ensures.items c.in_ok-fill.ensures.gathers c.in_ok-fill.ensures.filled c.in_ok-fill.ensures.stays)
