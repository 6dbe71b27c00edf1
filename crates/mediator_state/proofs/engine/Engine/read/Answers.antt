use Rattle.mediator_state.proofs.Judging.{next_reading}
use Rattle.mediator_state.proofs.engine.Engine.read.Goals as goal

pub returns-clause-ok : goal.returns-clause-ok
returns-clause-ok g c h so = next_reading c.args.self.now h c.args.session.0 c.args.number c.args.message.now _ c.in_ok-open.open.now so c.in_ok-open.ensures.ok c.in_ok-read.ensures.reading
