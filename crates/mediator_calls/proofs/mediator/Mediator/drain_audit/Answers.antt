use Rattle.std.proofs.Common.{take, ap, ◌∙◌, subst}
use Rattle.mediator_history.specs.Auditing.{audit_list}
use Rattle.disclosure_audit.proofs.StandingLaws.{nothing_oldest}
use Rattle.mediator_calls.specs.Mediation.{Mediation, noted_at}
use Rattle.mediator_calls.specs.View.{view_of}
use Rattle.mediator_calls.specs.Calls.{Drains}
use Rattle.mediator_calls.proofs.CallLaws.{both_ok, entries_kept, if_ok_gives, kept_or_same, kept_drain, drains}
use Rattle.mediator_calls.proofs.mediator.Mediator.drain_audit.Goals as goal

pub invariant_of-self : goal.invariant_of-self
invariant_of-self c = kept_or_same c.drain_audit.result c.self.inside.state c.drain_audit.new.self c.self.invariant (both_ok _ _ c.drain_audit.result c.drain_audit.ensures.ok c.drain_audit.ensures.drained)
    (λ x ok. kept_drain c.self.inside.state c.drain_audit.new.self c.args.most x.items c.self.invariant (entries_kept (ok.0 c.self.inside.state.chronicle.entries c.self.invariant.stands)) c.drain_audit.ensures.places ok.1 c.drain_audit.ensures.limits c.drain_audit.ensures.audit_limit c.drain_audit.ensures.journaled)
    c.drain_audit.ensures.err

pub returns-clause-ok : goal.returns-clause-ok
returns-clause-ok c = if_ok_gives c.drain_audit.result (both_ok _ _ c.drain_audit.result c.drain_audit.ensures.ok c.drain_audit.ensures.drained)
    (λ x ok. subst (λ (m : Mediation). Drains m c.args.most x.items (view_of c.drain_audit.new.self)) c.self.view_is
    (drains c.self.inside.state c.drain_audit.new.self c.args.most x.items c.self.invariant.stands (entries_kept (ok.0 c.self.inside.state.chronicle.entries c.self.invariant.stands)) c.drain_audit.ensures.places ok.1 c.drain_audit.ensures.limits c.drain_audit.ensures.audit_limit c.drain_audit.ensures.journaled))

pub returns-clause-none : goal.returns-clause-none
returns-clause-none c = λ none. c.drain_audit.ensures.none
    (nothing_oldest c.self.inside.state.engine.audit.standing (audit_list c.self.inside.state.chronicle.entries) c.args.most c.self.invariant.stands.stands.audit (ap (λ (m : Mediation). take c.args.most (noted_at m)) c.self.view_is ∙ none))
