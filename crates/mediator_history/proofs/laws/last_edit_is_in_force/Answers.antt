use Rattle.mediator_history.proofs.LastLaws.{policy-found, policy-only}
use Rattle.mediator_history.proofs.laws.last_edit_is_in_force.Goals as goal

pub returns : goal.returns
returns c = λ h policy. (policy-found h policy, policy-only h policy)
