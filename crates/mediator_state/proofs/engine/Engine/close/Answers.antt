use Rattle.std.proofs.Common.{refl}
use Rattle.mediator_state.proofs.EntrySteps.{stands-close}
use Rattle.mediator_state.proofs.engine.Engine.close.Goals as goal

pub returns-clause-stands : goal.returns-clause-stands
returns-clause-stands g c = λ h so. stands-close c.args.self.now _ h c.args.session.0 so refl refl refl refl refl refl refl refl c.close.ensures
