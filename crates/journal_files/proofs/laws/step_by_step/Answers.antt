use Rattle.journal_files.proofs.Stopping.{step_by_step}
use Rattle.journal_files.proofs.laws.step_by_step.Goals as goal

pub returns : goal.returns
returns c = step_by_step
