use Rattle.shared_mediator.proofs.Moving.{after_open, still, counts}
use Rattle.shared_mediator.proofs.counted.CountedMediator.open.Goals as goal

pub invariant_of-self : goal.invariant_of-self
invariant_of-self c = still c.open.result c.self.inside.mediator c.open.new.self c.self.inside.from c.self.inside.gone c.self.inside.handed 0 c.self.invariant c.open.ensures.ok c.open.ensures.unchanged
    (λ session is. after_open c.self.inside.mediator c.open.new.self c.self.inside.from c.self.inside.gone c.self.inside.handed session.0 c.journal-for_proof.ensures.sound c.self.invariant is)

pub returns-clause-counts : goal.returns-clause-counts
returns-clause-counts c = counts c.open.result c.self.inside.mediator c.open.new.self c.self.inside.from c.self.inside.gone c.self.inside.handed 0 c.args.self.now c.self.view_is c.open.ensures.ok
    (λ session is. after_open c.self.inside.mediator c.open.new.self c.self.inside.from c.self.inside.gone c.self.inside.handed session.0 c.journal-for_proof.ensures.sound c.self.invariant is)
