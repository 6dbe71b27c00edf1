use Rattle.flow_anonymize.proofs.OtherLaws.{others_never_matter}
use Rattle.flow_anonymize.proofs.laws.others_never_matter.Goals as goal

pub returns : goal.returns
returns c = others_never_matter
