use Rattle.shared_mediator.proofs.Moving.{after_close, still_done, counts_done}
use Rattle.shared_mediator.proofs.counted.CountedMediator.close.Goals as goal

pub invariant_of-self : goal.invariant_of-self
invariant_of-self c = still_done c.close.result c.self.inside.mediator c.close.new.self c.self.inside.from c.self.inside.gone c.self.inside.handed 0 c.self.invariant c.close.ensures.ok c.close.ensures.unchanged
    (after_close c.self.inside.mediator c.close.new.self c.self.inside.from c.self.inside.gone c.self.inside.handed c.args.session.0 c.journal-for_proof.ensures.sound c.self.invariant)

pub returns-clause-counts : goal.returns-clause-counts
returns-clause-counts c = counts_done c.close.result c.self.inside.mediator c.close.new.self c.self.inside.from c.self.inside.gone c.self.inside.handed 0 c.args.self.now c.self.view_is c.close.ensures.ok
    (after_close c.self.inside.mediator c.close.new.self c.self.inside.from c.self.inside.gone c.self.inside.handed c.args.session.0 c.journal-for_proof.ensures.sound c.self.invariant)
