use Rattle.shared_mediator.proofs.Moving.{after_receive, still, counts}
use Rattle.shared_mediator.proofs.counted.CountedMediator.receive_judged.Goals as goal

pub invariant_of-self : goal.invariant_of-self
invariant_of-self c = still c.receive_judged.result c.self.inside.mediator c.receive_judged.new.self c.self.inside.from c.self.inside.gone c.self.inside.handed 1 c.self.invariant c.receive_judged.ensures.ok c.receive_judged.ensures.unchanged
    (λ receipt is. after_receive c.self.inside.mediator c.receive_judged.new.self c.self.inside.from c.self.inside.gone c.self.inside.handed c.args.session.0 c.args.number c.args.message receipt c.journal-for_proof.ensures.sound c.self.invariant is)

pub returns-clause-counts : goal.returns-clause-counts
returns-clause-counts c = counts c.receive_judged.result c.self.inside.mediator c.receive_judged.new.self c.self.inside.from c.self.inside.gone c.self.inside.handed 1 c.args.self.now c.self.view_is c.receive_judged.ensures.ok
    (λ receipt is. after_receive c.self.inside.mediator c.receive_judged.new.self c.self.inside.from c.self.inside.gone c.self.inside.handed c.args.session.0 c.args.number c.args.message receipt c.journal-for_proof.ensures.sound c.self.invariant is)
