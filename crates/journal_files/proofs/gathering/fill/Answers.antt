use Rattle.journal_files.proofs.Gathered.{loses_after, whatever_err}
use Rattle.journal_files.proofs.gathering.fill.Goals as goal

pub returns-in_err-count-clause-loses : goal.returns-in_err-count-clause-loses
returns-in_err-count-clause-loses g c = whatever_err _ c.from_residual.result (loses_after _ _ _ _ _ c.reads.invariant.gathers c.in_err-count.ensures.loses)
