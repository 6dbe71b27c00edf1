use Rattle.std.proofs.Common.{refl}
use Rattle.mediator_state.proofs.CallLaws.{same_roomed}
use Rattle.mediator_state.proofs.state.State.snapshot.Goals as goal

pub returns-clause-unchanged : goal.returns-clause-unchanged
returns-clause-unchanged g c = same_roomed g.C.Chronicle.tells g.C.Chronicle.limits c.args.self.now c.args.self.now.chronicle c.snapshot.new.self (λ h told. told) c.snapshot.ensures.unchanged refl
