use Rattle.shared_mediator.proofs.AnsweredLaws.{pull_refused}
use Rattle.shared_mediator.proofs.laws.full_count_is_told.Goals as goal

pub returns : goal.returns
returns c = pull_refused
