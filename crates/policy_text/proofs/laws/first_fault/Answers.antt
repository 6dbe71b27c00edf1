use Rattle.policy_text.proofs.OneFaultLaws.{first_fault, policy_or_fault}
use Rattle.policy_text.proofs.laws.first_fault.Goals as goal

pub returns-clause-answered : goal.returns-clause-answered
returns-clause-answered c = first_fault

pub returns-clause-one : goal.returns-clause-one
returns-clause-one c = policy_or_fault
