use Rattle.std.proofs.Common.{subst}
use Rattle.mediator_calls.specs.Mediation.{Mediation}
use Rattle.mediator_calls.specs.View.{view_of}
use Rattle.mediator_calls.specs.Calls.{Receives, RefusesReceivePrepared}
use Rattle.mediator_calls.proofs.CallLaws.{if_ok_gives, if_err_gives, receives, refuses_prepared, kept_by, kept_receive, refused_same}
use Rattle.mediator_calls.proofs.mediator.Mediator.receive_prepared.Goals as goal

pub invariant_of-self : goal.invariant_of-self
invariant_of-self c = kept_by c.receive_prepared.result c.self.inside.state c.receive_prepared.new.self c.self.invariant c.receive_prepared.ensures.ok
    (λ x ok. kept_receive c.self.inside.state c.receive_prepared.new.self c.args.session.0 c.args.number c.args.prepared.message x c.self.invariant (ok.goes_on c.self.inside.state.chronicle.entries c.self.invariant.stands) ok.untouched ok.journaled)
    c.receive_prepared.ensures.unchanged

pub returns-clause-ok : goal.returns-clause-ok
returns-clause-ok c = if_ok_gives c.receive_prepared.result c.receive_prepared.ensures.ok
    (λ x ok. subst (λ (m : Mediation). Receives m c.args.session.0 c.args.number c.args.prepared.message x (view_of c.receive_prepared.new.self)) c.self.view_is
    (receives c.self.inside.state c.receive_prepared.new.self c.args.session.0 c.args.number c.args.prepared.message x c.self.invariant.stands (ok.goes_on c.self.inside.state.chronicle.entries c.self.invariant.stands) ok.untouched ok.journaled))

pub returns-clause-err : goal.returns-clause-err
returns-clause-err c = if_err_gives c.receive_prepared.result c.receive_prepared.ensures.err
    (λ e refused. subst (λ (m : Mediation). RefusesReceivePrepared e.0 m c.args.session.0 c.args.number c.args.prepared) c.self.view_is
    (refuses_prepared e.0 c.self.inside.state c.args.session.0 c.args.number c.args.prepared c.self.invariant.stands (refused c.self.inside.state.chronicle.entries c.self.invariant.stands)))

pub returns-clause-unchanged : goal.returns-clause-unchanged
returns-clause-unchanged c = refused_same c.receive_prepared.result c.self.inside.state c.receive_prepared.new.self c.args.self.now c.self.invariant.stands c.self.view_is c.receive_prepared.ensures.unchanged
