use Rattle.journal_files.proofs.Stays.{head_stays, fault_stays}
use Rattle.journal_files.proofs.laws.fault_stays.Goals as goal

pub returns-clause-head : goal.returns-clause-head
returns-clause-head c = head_stays

pub returns-clause-step : goal.returns-clause-step
returns-clause-step c = fault_stays
