use Rattle.policy_text.proofs.SpellLaws.{one_policy}
use Rattle.policy_text.proofs.laws.one_policy.Goals as goal

pub returns : goal.returns
returns c = one_policy
