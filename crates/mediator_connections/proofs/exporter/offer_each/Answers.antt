use Rattle.std.specs.Vec.Iter.{into_iter_items}
use Rattle.mediator_connections.proofs.Offering.{offers_one, offering_starts, offering_on}
use Rattle.mediator_connections.proofs.exporter.offer_each.Goals as goal

pub messages-init : goal.messages-init
messages-init g c = offering_starts c.args.handle.now c.args.messages.items (into_iter_items c.into_iter-message-iterator.result) c.into_iter-message-iterator.ensures.into_iter_gives.0

pub messages-preserved : goal.messages-preserved
messages-preserved g c =
    offering_on c.args.handle.now c.messages.handle c.offer_one.new.handle c.args.messages.items (into_iter_items c.messages.message-iterator) (into_iter_items c.next.new.self) c.in-Some.message c.in-Some.ensures.steps.0 c.messages.invariant
    (offers_one c.messages.handle c.offer_one.new.handle c.in-Some.message c.in_ok-receipt.receipt.position c.in_ok-receipt.ensures.session c.in_ok-receipt.ensures.kept)
