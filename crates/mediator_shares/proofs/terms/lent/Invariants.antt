use Rattle.std.proofs.Common.{◌≡◌, map, take}
use Rattle.mediator_tables.specs.SubscriptionTable.{told}
use Rattle.mediator_shares.specs.Terms.{owned}
use Rattle.mediator_shares.proofs.terms.lent.Given as goal

abbrev pub invariant-subscribers : goal.invariant-subscribers
invariant-subscribers l = map told l.served.items ≡ map owned (take l.who-index l.subscribers)
