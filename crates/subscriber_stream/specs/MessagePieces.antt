-- A message in pieces.
use Rattle.std.specs.Prelude.{ℕ, List}
use Rattle.subscriber_stream.specs.declared.message_pieces.Piece.{Piece}
use Rattle.subscriber_stream.specs.declared.message_pieces.Piece.TheVariants.{Header, SetHeader, Shared}

-- the octets of a piece
abbrev pub piece_octets : Piece → List ℕ
piece_octets (Header octets) = octets
piece_octets (SetHeader octets) = octets
piece_octets (Shared octets) = octets
