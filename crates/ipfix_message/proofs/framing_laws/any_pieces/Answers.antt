use Rattle.ipfix_message.proofs.FeedLaws.{framed_by_pieces, same_in_any_pieces}
use Rattle.ipfix_message.proofs.framing_laws.any_pieces.Goals as goal

pub returns : goal.returns
returns c = record { framed = framed_by_pieces; same = same_in_any_pieces }
