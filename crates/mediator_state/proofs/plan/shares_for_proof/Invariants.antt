use Rattle.std.proofs.Common.{map, take}
use Rattle.std.specs.List.{AllByRecursion}
use Rattle.mediator_tables.specs.SubscriptionTable.{shown}
use Rattle.mediator_state.specs.Planning.{AreStreamed}
use Rattle.mediator_state.proofs.plan.shares_for_proof.Given as goal

abbrev pub invariant-shares : goal.invariant-shares
invariant-shares l = AllByRecursion AreStreamed (map shown (take l.share-index l.shares))
