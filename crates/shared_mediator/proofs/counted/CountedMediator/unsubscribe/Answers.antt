use Rattle.std.proofs.Common.{◌+◌, subst, arith}
use Rattle.shared_mediator.specs.Counted.{CountedMediation, with_counts, handed_at, Counts}
use Rattle.shared_mediator.proofs.Moving.{after_end}
use Rattle.shared_mediator.proofs.counted.CountedMediator.unsubscribe.Goals as goal

pub overflow_add-self : goal.overflow_add-self
overflow_add-self c = omega (arith, (after_end c.self.inside.mediator c.unsubscribe.new.self c.self.inside.from c.self.inside.gone c.self.inside.handed c.args.sub.0 c.in-Ok.status c.journal-for_proof.ensures.sound c.self.invariant c.in-Ok.ensures.ok c.in_ok-unsubscribe.ensures.ok).fits)

pub invariant_of-self-2 : goal.invariant_of-self-2
invariant_of-self-2 c = (after_end c.self.inside.mediator c.unsubscribe.new.self c.self.inside.from c.self.inside.gone c.self.inside.handed c.args.sub.0 c.in-Ok.status c.journal-for_proof.ensures.sound c.self.invariant c.in-Ok.ensures.ok c.in_ok-unsubscribe.ensures.ok).counted

pub returns-clause-counts : goal.returns-clause-counts
returns-clause-counts c = subst (λ (was : CountedMediation). Counts was 1 0 (handed_at was.core c.args.sub.0) (with_counts c.unsubscribe.new.self c.self.inside.from (c.self.inside.gone + c.in-Ok.status.handed))) c.self.view_is
    (after_end c.self.inside.mediator c.unsubscribe.new.self c.self.inside.from c.self.inside.gone c.self.inside.handed c.args.sub.0 c.in-Ok.status c.journal-for_proof.ensures.sound c.self.invariant c.in-Ok.ensures.ok c.in_ok-unsubscribe.ensures.ok).counts
