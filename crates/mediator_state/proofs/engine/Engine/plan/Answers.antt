use Rattle.std.proofs.Common.{refl}
use Rattle.mediator_state.proofs.Judging.{planned}
use Rattle.mediator_state.proofs.engine.Engine.plan.Goals as goal

pub returns-clause-ok : goal.returns-clause-ok
returns-clause-ok g c h number octets so counted next = planned c.args.self.now h c.args.session.0 number octets _ c.in_ok-judged.judged refl next (c.in_ok-judged.ensures.judged h so counted) refl refl refl refl refl
