use Rattle.std.proofs.Common.{subst}
use Rattle.mediator_calls.specs.Mediation.{Mediation}
use Rattle.mediator_calls.specs.View.{view_of}
use Rattle.mediator_calls.specs.Calls.{Opens}
use Rattle.mediator_calls.proofs.CallLaws.{if_ok_gives, opens, kept_by, kept_open, refused_same}
use Rattle.mediator_calls.proofs.mediator.Mediator.open.Goals as goal

pub invariant_of-self : goal.invariant_of-self
invariant_of-self c = kept_by c.open.result c.self.inside.state c.open.new.self c.self.invariant c.open.ensures.ok
    (λ x ok. kept_open c.self.inside.state c.open.new.self x.0 c.self.invariant (ok.goes_on c.self.inside.state.chronicle.entries c.self.invariant.stands) ok.untouched ok.journaled)
    c.open.ensures.unchanged

pub returns-clause-ok : goal.returns-clause-ok
returns-clause-ok c = if_ok_gives c.open.result c.open.ensures.ok
    (λ x ok. subst (λ (m : Mediation). Opens m x.0 (view_of c.open.new.self)) c.self.view_is
    (opens c.self.inside.state c.open.new.self x.0 c.self.invariant.stands (ok.goes_on c.self.inside.state.chronicle.entries c.self.invariant.stands) ok.untouched ok.journaled))

pub returns-clause-unchanged : goal.returns-clause-unchanged
returns-clause-unchanged c = refused_same c.open.result c.self.inside.state c.open.new.self c.args.self.now c.self.invariant.stands c.self.view_is c.open.ensures.unchanged
