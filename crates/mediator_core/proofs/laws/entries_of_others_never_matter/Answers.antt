use Rattle.mediator_core.proofs.SecrecyLaws.{entries_of_others}
use Rattle.mediator_core.proofs.laws.entries_of_others_never_matter.Goals as goal

pub returns : goal.returns
returns c = entries_of_others
