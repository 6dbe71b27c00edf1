use Rattle.mediator_core.proofs.AnsweredLaws.{message_refused, advance_refused}
use Rattle.mediator_core.proofs.laws.full_is_told.Goals as goal

pub returns-clause-message : goal.returns-clause-message
returns-clause-message c = message_refused

pub returns-clause-advance : goal.returns-clause-advance
returns-clause-advance c = advance_refused
