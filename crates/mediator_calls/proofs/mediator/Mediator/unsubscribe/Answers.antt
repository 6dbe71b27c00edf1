use Rattle.std.proofs.Common.{subst}
use Rattle.mediator_calls.specs.Mediation.{Mediation}
use Rattle.mediator_calls.specs.View.{view_of}
use Rattle.mediator_calls.specs.Calls.{Unsubscribes}
use Rattle.mediator_calls.proofs.CallLaws.{on_ok_gives, unsubscribes, kept_done, kept_unsubscribe, refused_same}
use Rattle.mediator_calls.proofs.mediator.Mediator.unsubscribe.Goals as goal

pub invariant_of-self : goal.invariant_of-self
invariant_of-self c = kept_done c.unsubscribe.result c.self.inside.state c.unsubscribe.new.self c.self.invariant c.unsubscribe.ensures.ok
    (λ ok. kept_unsubscribe c.self.inside.state c.unsubscribe.new.self c.args.sub.0 c.self.invariant (ok c.self.inside.state.chronicle.entries c.self.invariant.stands) c.unsubscribe.ensures.others c.unsubscribe.ensures.drained c.unsubscribe.ensures.limits c.unsubscribe.ensures.audit_limit c.unsubscribe.ensures.journaled)
    c.unsubscribe.ensures.unchanged

pub returns-clause-ok : goal.returns-clause-ok
returns-clause-ok c = on_ok_gives c.unsubscribe.result c.unsubscribe.ensures.ok
    (λ ok. subst (λ (m : Mediation). Unsubscribes m c.args.sub.0 (view_of c.unsubscribe.new.self)) c.self.view_is
    (unsubscribes c.self.inside.state c.unsubscribe.new.self c.args.sub.0 c.self.invariant.stands (ok c.self.inside.state.chronicle.entries c.self.invariant.stands) c.unsubscribe.ensures.others c.unsubscribe.ensures.drained c.unsubscribe.ensures.limits c.unsubscribe.ensures.audit_limit c.unsubscribe.ensures.journaled))

pub returns-clause-unchanged : goal.returns-clause-unchanged
returns-clause-unchanged c = refused_same c.unsubscribe.result c.self.inside.state c.unsubscribe.new.self c.args.self.now c.self.invariant.stands c.self.view_is c.unsubscribe.ensures.unchanged
