use Rattle.std.proofs.Common.{refl, ap}
use Rattle.mediator_state.proofs.EntrySteps.{next_is_free, stands-subscribe}
use Rattle.mediator_state.proofs.engine.Engine.subscribe.Goals as goal

pub insert-requires-clause-new : goal.insert-requires-clause-new
insert-requires-clause-new g c = next_is_free c.args.self.now c.requires.somewhere.history c.args.sub.0 c.requires.somewhere.stands c.requires.next

pub returns-clause-ok : goal.returns-clause-ok
returns-clause-ok g c = λ h so.
    stands-subscribe c.args.self.now _ h c.args.sub.0 c.args.name.now c.hashed-stream.result so c.requires.next refl refl refl refl refl refl refl refl
    c.hashed-stream.ensures.stands (ap (λ k. k.limits) c.hashed-stream.ensures.value) c.in_ok-insert.ensures.ok c.in_ok-insert.ensures.served
