use Rattle.std.proofs.Common.{refl}
use Rattle.mediator_state.proofs.CallLaws.{same_roomed}
use Rattle.mediator_state.proofs.state.State.hash_by.Goals as goal

pub returns : goal.returns
returns g c = record { unchanged = same_roomed g.C.Chronicle.tells g.C.Chronicle.limits c.args.self.now c.args.self.now.chronicle c.hash_by.new.self (λ h told. told) c.hash_by.ensures.unchanged refl }
