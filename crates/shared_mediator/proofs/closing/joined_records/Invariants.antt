use Rattle.std.proofs.Common.{◌≡◌, ◌+◌, length}
use Rattle.shared_mediator.specs.Closing.{records_handed}
use Rattle.shared_mediator.proofs.closing.joined_records.Given as goal

abbrev pub invariant-loop-delivery : goal.invariant-loop-delivery
invariant-loop-delivery g l =
    (l.all.parts + length l.delivery-iterator.rest.items ≡ l.fn.left.parts + length l.fn.deliveries.items)
    × (l.all.amount + records_handed l.delivery-iterator.rest.items ≡ l.fn.left.amount + records_handed l.fn.deliveries.items)
