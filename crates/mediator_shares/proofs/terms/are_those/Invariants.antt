use Rattle.std.proofs.Common.{◌≡◌, map, take}
use Rattle.mediator_tables.specs.SubscriptionTable.{told}
use Rattle.mediator_shares.specs.Terms.{owned}
use Rattle.mediator_shares.proofs.terms.are_those.Given as goal

abbrev pub invariant-subscribers : goal.invariant-subscribers
invariant-subscribers l = map owned (take l.place l.subscribers) ≡ map told (take l.place l.served)
