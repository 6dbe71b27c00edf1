use Rattle.std.proofs.Common.{◌∙◌}
use Rattle.subscriber_stream.proofs.Messages.{behind_none}
use Rattle.subscriber_stream.proofs.writing.message_of.Goals as goal

pub returns : goal.returns
returns c = c.in_ok-from_vec.ensures.ok ∙ behind_none _ _ _ c.in_ok-out.ensures.items c.in_ok-put_message.ensures
