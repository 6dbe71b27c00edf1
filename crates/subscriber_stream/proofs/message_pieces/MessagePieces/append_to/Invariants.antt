use Rattle.std.proofs.Common.{◌≡◌, ◌++◌, take}
use Rattle.std.specs.List.{flat_map}
use Rattle.subscriber_stream.specs.MessagePieces.{piece_octets}
use Rattle.subscriber_stream.proofs.message_pieces.MessagePieces.append_to.Given as goal

abbrev pub invariant-pieces : goal.invariant-pieces
invariant-pieces l = l.out.items ≡ l.fn.out.items ++ flat_map piece_octets (take l.piece-index l.piece-items)
