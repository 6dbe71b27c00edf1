use Rattle.std.proofs.Common.{◌≡◌, take}
use Rattle.mediator_connections.specs.Delivering.{handed_octets}
use Rattle.mediator_connections.proofs.delivery.join.Given as goal

abbrev pub invariant-joins : goal.invariant-joins
invariant-joins l = l.piece.items ≡ handed_octets (take l.handed-index l.messages)
