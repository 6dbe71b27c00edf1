use Rattle.std.proofs.Common.{◌≡◌, map, take}
use Rattle.mediator_tables.specs.SubscriptionTable.{told}
use Rattle.mediator_shares.specs.Terms.{owned}
use Rattle.mediator_shares.proofs.terms.Terms.of.Given as goal

abbrev pub invariant-served : goal.invariant-served
invariant-served l = map owned l.subscribers.items ≡ map told (take l.who-index l.served)
