use Rattle.mediator_state.proofs.Judging.{next_reading, is_stale}
use Rattle.mediator_state.proofs.engine.Engine.read_prepared.Goals as goal

pub returns-in-Some-clause-ok : goal.returns-in-Some-clause-ok
returns-in-Some-clause-ok g c h so =
    next_reading c.args.self.now h c.args.session.0 c.args.number c.args.prepared.now.message _ c.in_ok-open.open.now so c.in_ok-open.ensures.ok (λ older stands. rw c.in-Some.is at (c.in_ok-reading.ensures.reading older stands))

pub returns-in-None-clause-err : goal.returns-in-None-clause-err
returns-in-None-clause-err g c h so =
    is_stale c.args.self.now h c.args.session.0 c.args.number c.args.prepared.now c.in_ok-open.open.now so c.in_ok-open.ensures.ok (λ older stands. rw c.in-None.is at (c.in_ok-reading.ensures.stale older stands))
