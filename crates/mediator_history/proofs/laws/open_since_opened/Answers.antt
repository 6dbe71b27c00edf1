use Rattle.mediator_history.proofs.SinceLaws.{open-found, open-only}
use Rattle.mediator_history.proofs.laws.open_since_opened.Goals as goal

pub returns : goal.returns
returns c = λ session h. (open-found session h, open-only session h)
