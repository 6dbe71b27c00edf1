use Rattle.shared_mediator.proofs.Moving.{after_drain, counts}
use Rattle.shared_mediator.proofs.counted.CountedMediator.drain_audit.Goals as goal

pub returns-clause-counts : goal.returns-clause-counts
returns-clause-counts c = counts c.drain_audit.result c.self.inside.mediator c.drain_audit.new.self c.self.inside.from c.self.inside.gone c.self.inside.handed 0 c.args.self.now c.self.view_is c.drain_audit.ensures.ok
    (λ out is. after_drain c.self.inside.mediator c.drain_audit.new.self c.self.inside.from c.self.inside.gone c.self.inside.handed c.args.most out.items c.self.invariant is)
