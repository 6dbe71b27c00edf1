use Rattle.std.proofs.Common.{refl, ap}
use Rattle.flow_aggregate.specs.Running.{HeldGroups}
use Rattle.mediator_state.proofs.EntrySteps.{stands-new}
use Rattle.mediator_state.proofs.engine.Engine.new.Goals as goal

pub returns-clause-stands : goal.returns-clause-stands
returns-clause-stands g c = stands-new _ c.in_ok-nothing.ensures (λ q. ap (λ (x : HeldGroups). x.groups) (c.new-3.ensures q)) refl refl refl c.new.ensures c.new-2.ensures c.requires.fresh c.requires.range
