use Rattle.mediator_offline.proofs.PlainLaws.{history_is_plain}
use Rattle.mediator_offline.proofs.laws.accepted_messages_are_the_history.Goals as goal

pub returns : goal.returns
returns c = history_is_plain
