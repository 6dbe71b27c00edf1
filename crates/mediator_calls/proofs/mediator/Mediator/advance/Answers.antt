use Rattle.std.proofs.Common.{subst}
use Rattle.mediator_calls.specs.Mediation.{Mediation}
use Rattle.mediator_calls.specs.View.{view_of}
use Rattle.mediator_calls.specs.Calls.{Advances, RefusesAdvance}
use Rattle.mediator_calls.proofs.CallLaws.{on_ok_gives, if_err_gives, advances, refuses_advance, kept_done, kept_advance, refused_same}
use Rattle.mediator_calls.proofs.mediator.Mediator.advance.Goals as goal

pub invariant_of-self : goal.invariant_of-self
invariant_of-self c = kept_done c.advance.result c.self.inside.state c.advance.new.self c.self.invariant c.advance.ensures.ok
    (λ ok. kept_advance c.self.inside.state c.advance.new.self c.args.t c.self.invariant (ok.goes_on c.self.inside.state.chronicle.entries c.self.invariant.stands) ok.untouched ok.journaled)
    c.advance.ensures.unchanged

pub returns-clause-ok : goal.returns-clause-ok
returns-clause-ok c = on_ok_gives c.advance.result c.advance.ensures.ok
    (λ ok. subst (λ (m : Mediation). Advances m c.args.t (view_of c.advance.new.self)) c.self.view_is
    (advances c.self.inside.state c.advance.new.self c.args.t c.self.invariant.stands (ok.goes_on c.self.inside.state.chronicle.entries c.self.invariant.stands) ok.untouched ok.journaled))

pub returns-clause-err : goal.returns-clause-err
returns-clause-err c = if_err_gives c.advance.result c.advance.ensures.err
    (λ e refused. subst (λ (m : Mediation). RefusesAdvance e m c.args.t) c.self.view_is
    (refuses_advance e c.self.inside.state c.args.t c.self.invariant.stands (refused c.self.inside.state.chronicle.entries c.self.invariant.stands)))

pub returns-clause-unchanged : goal.returns-clause-unchanged
returns-clause-unchanged c = refused_same c.advance.result c.self.inside.state c.advance.new.self c.args.self.now c.self.invariant.stands c.self.view_is c.advance.ensures.unchanged
