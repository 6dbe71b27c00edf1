use Rattle.std.proofs.Common.{subst}
use Rattle.mediator_calls.specs.Mediation.{Mediation}
use Rattle.mediator_calls.specs.View.{view_of}
use Rattle.mediator_calls.specs.Calls.{Receives, RefusesReceive}
use Rattle.mediator_calls.proofs.CallLaws.{if_ok_gives, if_err_gives, receives, refuses_receive, kept_by, kept_receive, refused_same}
use Rattle.mediator_calls.proofs.mediator.Mediator.receive_judged.Goals as goal

pub invariant_of-self : goal.invariant_of-self
invariant_of-self c = kept_by c.receive_judged.result c.self.inside.state c.receive_judged.new.self c.self.invariant c.receive_judged.ensures.ok
    (λ x ok. kept_receive c.self.inside.state c.receive_judged.new.self c.args.session.0 c.args.number c.args.message x c.self.invariant (ok.goes_on c.self.inside.state.chronicle.entries c.self.invariant.stands) ok.untouched ok.journaled)
    c.receive_judged.ensures.unchanged

pub returns-clause-ok : goal.returns-clause-ok
returns-clause-ok c = if_ok_gives c.receive_judged.result c.receive_judged.ensures.ok
    (λ x ok. subst (λ (m : Mediation). Receives m c.args.session.0 c.args.number c.args.message x (view_of c.receive_judged.new.self)) c.self.view_is
    (receives c.self.inside.state c.receive_judged.new.self c.args.session.0 c.args.number c.args.message x c.self.invariant.stands (ok.goes_on c.self.inside.state.chronicle.entries c.self.invariant.stands) ok.untouched ok.journaled))

pub returns-clause-err : goal.returns-clause-err
returns-clause-err c = if_err_gives c.receive_judged.result c.receive_judged.ensures.err
    (λ e refused. subst (λ (m : Mediation). RefusesReceive e m c.args.session.0 c.args.number c.args.message) c.self.view_is
    (refuses_receive e c.self.inside.state c.args.session.0 c.args.number c.args.message c.self.invariant.stands (refused c.self.inside.state.chronicle.entries c.self.invariant.stands)))

pub returns-clause-unchanged : goal.returns-clause-unchanged
returns-clause-unchanged c = refused_same c.receive_judged.result c.self.inside.state c.receive_judged.new.self c.args.self.now c.self.invariant.stands c.self.view_is c.receive_judged.ensures.unchanged
