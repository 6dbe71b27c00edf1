use Rattle.std.proofs.Common.{map, take}
use Rattle.mediator_tables.specs.SubscriptionTable.{shown}
use Rattle.history_verify.specs.Parts.{HasCounted}
use Rattle.history_verify.proofs.subscribers.Subscribers.give.Given as goal

abbrev pub invariant-shares : goal.invariant-shares
invariant-shares l = HasCounted (map shown (take l.share-index l.shares)) l.fn.self l.self
