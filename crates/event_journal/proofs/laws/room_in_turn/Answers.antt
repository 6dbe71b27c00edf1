use Rattle.event_journal.proofs.RoomLaws.{room_in_turn}
use Rattle.event_journal.proofs.laws.room_in_turn.Goals as goal

pub returns : goal.returns
returns c = room_in_turn
