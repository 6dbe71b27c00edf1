use Rattle.flow_anonymize.proofs.OtherLaws.{later_never_matter}
use Rattle.flow_anonymize.proofs.laws.later_rules_never_matter.Goals as goal

pub returns : goal.returns
returns c = later_never_matter
