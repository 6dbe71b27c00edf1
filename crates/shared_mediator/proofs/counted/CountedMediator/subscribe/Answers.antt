use Rattle.shared_mediator.proofs.Moving.{after_subscribe, still, counts}
use Rattle.shared_mediator.proofs.counted.CountedMediator.subscribe.Goals as goal

pub invariant_of-self : goal.invariant_of-self
invariant_of-self c = still c.subscribe.result c.self.inside.mediator c.subscribe.new.self c.self.inside.from c.self.inside.gone c.self.inside.handed 1 c.self.invariant c.subscribe.ensures.ok c.subscribe.ensures.unchanged
    (λ sub is. after_subscribe c.self.inside.mediator c.subscribe.new.self c.self.inside.from c.self.inside.gone c.self.inside.handed sub.0 c.args.name.now c.journal-for_proof.ensures.sound c.self.invariant is)

pub returns-clause-counts : goal.returns-clause-counts
returns-clause-counts c = counts c.subscribe.result c.self.inside.mediator c.subscribe.new.self c.self.inside.from c.self.inside.gone c.self.inside.handed 1 c.args.self.now c.self.view_is c.subscribe.ensures.ok
    (λ sub is. after_subscribe c.self.inside.mediator c.subscribe.new.self c.self.inside.from c.self.inside.gone c.self.inside.handed sub.0 c.args.name.now c.journal-for_proof.ensures.sound c.self.invariant is)
