use Rattle.std.specs.Vec.Iter.{into_iter_items}
use Rattle.mediator_connections.proofs.Offering.{IsOffering}
use Rattle.mediator_connections.proofs.exporter.offer_each.Given as goal

abbrev pub invariant-messages : goal.invariant-messages
invariant-messages g l =
    IsOffering l.fn.handle l.handle l.fn.messages.items (into_iter_items l.message-iterator)
