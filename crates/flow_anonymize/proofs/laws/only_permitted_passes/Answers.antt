use Rattle.flow_anonymize.proofs.PermittedLaws.{only_permitted_passes}
use Rattle.flow_anonymize.proofs.laws.only_permitted_passes.Goals as goal

pub returns : goal.returns
returns c = only_permitted_passes
