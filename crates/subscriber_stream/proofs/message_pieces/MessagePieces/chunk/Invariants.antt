use Rattle.subscriber_stream.proofs.ChunkLaws.{IsSkipping}
use Rattle.subscriber_stream.proofs.message_pieces.MessagePieces.chunk.Given as goal

abbrev pub invariant-pieces : goal.invariant-pieces
invariant-pieces l = IsSkipping l.piece-items l.piece-index l.start l.skip
