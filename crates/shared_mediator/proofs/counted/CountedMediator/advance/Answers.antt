use Rattle.shared_mediator.proofs.Moving.{after_advance, still_done, counts_done}
use Rattle.shared_mediator.proofs.counted.CountedMediator.advance.Goals as goal

pub invariant_of-self : goal.invariant_of-self
invariant_of-self c = still_done c.advance.result c.self.inside.mediator c.advance.new.self c.self.inside.from c.self.inside.gone c.self.inside.handed 1 c.self.invariant c.advance.ensures.ok c.advance.ensures.unchanged
    (after_advance c.self.inside.mediator c.advance.new.self c.self.inside.from c.self.inside.gone c.self.inside.handed c.args.t c.journal-for_proof.ensures.sound c.self.invariant)

pub returns-clause-counts : goal.returns-clause-counts
returns-clause-counts c = counts_done c.advance.result c.self.inside.mediator c.advance.new.self c.self.inside.from c.self.inside.gone c.self.inside.handed 1 c.args.self.now c.self.view_is c.advance.ensures.ok
    (after_advance c.self.inside.mediator c.advance.new.self c.self.inside.from c.self.inside.gone c.self.inside.handed c.args.t c.journal-for_proof.ensures.sound c.self.invariant)
