use Rattle.std.proofs.Common.{refl, ap}
use Rattle.flow_aggregate.specs.Running.{HeldGroups}
use Rattle.mediator_state.proofs.EntrySteps.{stands-unsubscribe}
use Rattle.mediator_state.proofs.engine.Engine.unsubscribe.Goals as goal

pub returns-clause-stands : goal.returns-clause-stands
returns-clause-stands g c = λ h so. stands-unsubscribe c.args.self.now _ h c.args.sub.0 so refl refl refl refl refl refl refl c.remove.ensures.each c.remove.ensures.served
    (ap (λ (x : HeldGroups). x.groups) c.remove-2.ensures.gone) (λ q other. ap (λ (x : HeldGroups). x.groups) (c.remove-2.ensures.others q other))
