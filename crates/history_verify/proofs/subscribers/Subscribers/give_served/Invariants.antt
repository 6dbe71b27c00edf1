use Rattle.std.proofs.Common.{map, take}
use Rattle.mediator_tables.specs.SubscriptionTable.{shown}
use Rattle.history_verify.specs.Parts.{served_shares, HasCounted}
use Rattle.history_verify.proofs.subscribers.Subscribers.give_served.Given as goal

abbrev pub invariant-shares : goal.invariant-shares
invariant-shares l = HasCounted (served_shares l.fn.self (map shown (take l.share-index l.shares))) l.fn.self l.self
