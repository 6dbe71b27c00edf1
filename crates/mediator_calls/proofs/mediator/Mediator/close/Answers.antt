use Rattle.std.proofs.Common.{subst}
use Rattle.mediator_calls.specs.Mediation.{Mediation}
use Rattle.mediator_calls.specs.View.{view_of}
use Rattle.mediator_calls.specs.Calls.{Closes}
use Rattle.mediator_calls.proofs.CallLaws.{on_ok_gives, closes, kept_done, kept_close, refused_same}
use Rattle.mediator_calls.proofs.mediator.Mediator.close.Goals as goal

pub invariant_of-self : goal.invariant_of-self
invariant_of-self c = kept_done c.close.result c.self.inside.state c.close.new.self c.self.invariant c.close.ensures.ok
    (λ ok. kept_close c.self.inside.state c.close.new.self c.args.session.0 c.self.invariant (ok.goes_on c.self.inside.state.chronicle.entries c.self.invariant.stands) ok.untouched ok.journaled)
    c.close.ensures.unchanged

pub returns-clause-ok : goal.returns-clause-ok
returns-clause-ok c = on_ok_gives c.close.result c.close.ensures.ok
    (λ ok. subst (λ (m : Mediation). Closes m c.args.session.0 (view_of c.close.new.self)) c.self.view_is
    (closes c.self.inside.state c.close.new.self c.args.session.0 c.self.invariant.stands (ok.goes_on c.self.inside.state.chronicle.entries c.self.invariant.stands) ok.untouched ok.journaled))

pub returns-clause-unchanged : goal.returns-clause-unchanged
returns-clause-unchanged c = refused_same c.close.result c.self.inside.state c.close.new.self c.args.self.now c.self.invariant.stands c.self.view_is c.close.ensures.unchanged
