use Rattle.std.proofs.Common.{refl}
use Rattle.mediator_state.proofs.EntrySteps.{stands-open}
use Rattle.mediator_state.proofs.engine.Engine.open.Goals as goal

pub returns-clause-ok : goal.returns-clause-ok
returns-clause-ok g c = λ h so. stands-open c.args.self.now _ h c.args.session.0 so c.requires.next refl refl refl refl refl refl refl refl c.open.ensures.others c.in_ok-open.ensures.ok
