use Rattle.mediator_core.proofs.SecrecyLaws.{denied_values}
use Rattle.mediator_core.proofs.laws.denied_values_never_matter.Goals as goal

pub returns : goal.returns
returns c = denied_values
