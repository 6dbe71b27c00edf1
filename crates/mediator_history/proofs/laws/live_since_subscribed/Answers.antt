use Rattle.mediator_history.proofs.SinceLaws.{live-found, live-only}
use Rattle.mediator_history.proofs.laws.live_since_subscribed.Goals as goal

pub returns : goal.returns
returns c = λ sub h. (live-found sub h, live-only sub h)
