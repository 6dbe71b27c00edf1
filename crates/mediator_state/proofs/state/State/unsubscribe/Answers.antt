use Rattle.mediator_state.proofs.CallLaws.{same_state, same_kept, on_err}
use Rattle.mediator_state.proofs.state.State.unsubscribe.Goals as goal

pub returns-then-not-is_live-clause-unchanged : goal.returns-then-not-is_live-clause-unchanged
returns-then-not-is_live-clause-unchanged g c = same_state g.C.Chronicle.tells g.C.Chronicle.limits c.args.self.now

pub returns-in_err-make_room-clause-unchanged : goal.returns-in_err-make_room-clause-unchanged
returns-in_err-make_room-clause-unchanged g c = on_err c.from_residual.result (same_kept g.C.Chronicle.tells g.C.Chronicle.limits c.args.self.now c.make_room.new.self.chronicle c.make_room.new.self.engine c.make_room.ensures.tells c.make_room.ensures.engine c.make_room.ensures.limits)
