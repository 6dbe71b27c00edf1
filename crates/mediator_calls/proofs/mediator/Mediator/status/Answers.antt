use Rattle.std.proofs.Common.{subst}
use Rattle.mediator_calls.specs.Mediation.{Mediation}
use Rattle.mediator_calls.specs.View.{view_of}
use Rattle.mediator_calls.specs.Calls.{IsStatusOf}
use Rattle.mediator_calls.proofs.CallLaws.{status_is}
use Rattle.mediator_calls.proofs.mediator.Mediator.status.Goals as goal

pub returns-in-Some-clause-ok : goal.returns-in-Some-clause-ok
returns-in-Some-clause-ok c = subst (λ (m : Mediation). IsStatusOf m c.args.sub.0 c.in-Some.status) c.self.view_is
    (status_is c.self.inside.state c.args.sub.0 c.in-Some.status c.self.invariant.stands (c.in-Some.ensures.some c.self.inside.state.chronicle.entries c.self.invariant.stands))
