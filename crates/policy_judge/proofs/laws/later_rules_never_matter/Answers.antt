use Rattle.policy_judge.proofs.NeverLaws.{later_never_matters}
use Rattle.policy_judge.proofs.laws.later_rules_never_matter.Goals as goal

pub returns : goal.returns
returns c = later_never_matters
