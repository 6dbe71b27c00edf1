use Rattle.std.proofs.Common.{map, take}
use Rattle.std.specs.List.{AllByRecursion}
use Rattle.mediator_tables.specs.SubscriptionTable.{shown}
use Rattle.history_verify.proofs.EmptyShares.{HasSome}
use Rattle.history_verify.proofs.judged.first_empty.Given as goal

abbrev pub invariant-shares : goal.invariant-shares
invariant-shares l = AllByRecursion HasSome (map shown (take l.place l.shares))
