use Rattle.event_journal.proofs.RoomLaws.{room_for_next}
use Rattle.mediator_state.proofs.state.State.append.Goals as goal

pub push_reserved-requires-clause-room : goal.push_reserved-requires-clause-room
push_reserved-requires-clause-room g c = room_for_next _ _ _ _ c.in-Some.entry _ c.in-Some.ensures.steps.0 c.entries.invariant.room
