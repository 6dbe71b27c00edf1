use Rattle.std.proofs.Common.{◌≡◌, map, take}
use Rattle.mediator_tables.specs.SubscriptionTable.{told, told_in}
use Rattle.mediator_tables.proofs.subscriptions.Subscriptions.served.Given as goal

abbrev pub invariant-served : goal.invariant-served
invariant-served l = map told l.found.items ≡ map (told_in l.self) (take l.sub-index l.sub-items)
