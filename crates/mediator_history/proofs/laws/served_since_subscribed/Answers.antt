use Rattle.mediator_history.proofs.LastLaws.{served-found, served-only}
use Rattle.mediator_history.proofs.laws.served_since_subscribed.Goals as goal

pub returns : goal.returns
returns c = λ sub h. (served-found sub h, served-only sub h)
