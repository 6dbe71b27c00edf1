use Rattle.mediator_history.proofs.LastLaws.{name-found, name-only}
use Rattle.mediator_history.proofs.laws.last_subscription_names.Goals as goal

pub returns : goal.returns
returns c = λ sub h name. (name-found sub h name, name-only sub h name)
