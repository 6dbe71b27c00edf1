use Rattle.flow_anonymize.proofs.ReasonLaws.{reasons_are_of_rules}
use Rattle.flow_anonymize.proofs.laws.reasons_are_of_rules.Goals as goal

pub returns : goal.returns
returns c = reasons_are_of_rules
