use Rattle.shared_mediator.proofs.Moving.{after_edit, still, counts}
use Rattle.shared_mediator.proofs.counted.CountedMediator.edit.Goals as goal

pub invariant_of-self : goal.invariant_of-self
invariant_of-self c = still c.edit.result c.self.inside.mediator c.edit.new.self c.self.inside.from c.self.inside.gone c.self.inside.handed 1 c.self.invariant c.edit.ensures.ok c.edit.ensures.unchanged
    (λ revision is. after_edit c.self.inside.mediator c.edit.new.self c.self.inside.from c.self.inside.gone c.self.inside.handed revision c.args.text.now c.journal-for_proof.ensures.sound c.self.invariant is)

pub returns-clause-counts : goal.returns-clause-counts
returns-clause-counts c = counts c.edit.result c.self.inside.mediator c.edit.new.self c.self.inside.from c.self.inside.gone c.self.inside.handed 1 c.args.self.now c.self.view_is c.edit.ensures.ok
    (λ revision is. after_edit c.self.inside.mediator c.edit.new.self c.self.inside.from c.self.inside.gone c.self.inside.handed revision c.args.text.now c.journal-for_proof.ensures.sound c.self.invariant is)
