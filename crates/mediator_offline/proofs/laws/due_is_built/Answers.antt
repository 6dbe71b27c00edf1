use Rattle.mediator_offline.proofs.DueLaws.{due_found, due_only}
use Rattle.mediator_offline.proofs.laws.due_is_built.Goals as goal

pub returns-clause-found : goal.returns-clause-found
returns-clause-found c = due_found

pub returns-clause-only : goal.returns-clause-only
returns-clause-only c = due_only
