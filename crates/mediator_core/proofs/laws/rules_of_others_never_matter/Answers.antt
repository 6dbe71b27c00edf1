use Rattle.mediator_core.proofs.SecrecyLaws.{rules_of_others}
use Rattle.mediator_core.proofs.laws.rules_of_others_never_matter.Goals as goal

pub returns : goal.returns
returns c = rules_of_others
