use Rattle.subscriber_stream.proofs.Messages.{behind_none}
use Rattle.subscriber_stream.proofs.writing.pieces_of.Goals as goal

pub returns : goal.returns
returns c = behind_none _ _ _ c.new-out.ensures c.in_ok-put_message.ensures
