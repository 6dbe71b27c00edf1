use Rattle.std.proofs.Common.{subst}
use Rattle.mediator_calls.specs.Mediation.{Mediation}
use Rattle.mediator_calls.specs.View.{view_of}
use Rattle.mediator_calls.specs.Calls.{Subscribes}
use Rattle.mediator_calls.proofs.CallLaws.{if_ok_gives, subscribes, kept_by, kept_subscribe, refused_same}
use Rattle.mediator_calls.proofs.mediator.Mediator.subscribe.Goals as goal

pub invariant_of-self : goal.invariant_of-self
invariant_of-self c = kept_by c.subscribe.result c.self.inside.state c.subscribe.new.self c.self.invariant c.subscribe.ensures.ok
    (λ x ok. kept_subscribe c.self.inside.state c.subscribe.new.self c.args.name.now x.0 c.self.invariant (ok.goes_on c.self.inside.state.chronicle.entries c.self.invariant.stands) ok.untouched ok.journaled)
    c.subscribe.ensures.unchanged

pub returns-clause-ok : goal.returns-clause-ok
returns-clause-ok c = if_ok_gives c.subscribe.result c.subscribe.ensures.ok
    (λ x ok. subst (λ (m : Mediation). Subscribes m c.args.name.now x.0 (view_of c.subscribe.new.self)) c.self.view_is
    (subscribes c.self.inside.state c.subscribe.new.self c.args.name.now x.0 c.self.invariant.stands (ok.goes_on c.self.inside.state.chronicle.entries c.self.invariant.stands) ok.untouched ok.journaled))

pub returns-clause-unchanged : goal.returns-clause-unchanged
returns-clause-unchanged c = refused_same c.subscribe.result c.self.inside.state c.subscribe.new.self c.args.self.now c.self.invariant.stands c.self.view_is c.subscribe.ensures.unchanged
