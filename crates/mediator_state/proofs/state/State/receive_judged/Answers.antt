use Rattle.mediator_state.proofs.CallLaws.{same_state, on_err}
use Rattle.mediator_state.proofs.state.State.receive_judged.Goals as goal

pub returns-in_err-reading-clause-unchanged : goal.returns-in_err-reading-clause-unchanged
returns-in_err-reading-clause-unchanged g c = on_err c.from_residual.result (same_state g.C.Chronicle.tells g.C.Chronicle.limits c.args.self.now)

pub take_in-requires-clause-read : goal.take_in-requires-clause-read
take_in-requires-clause-read g c h s = c.in_ok-reading.ensures.ok h s.stands
