use Rattle.ipfix_message.proofs.FramingLaws.{framed_once}
use Rattle.ipfix_message.proofs.framing_laws.one_framing.Goals as goal

pub returns : goal.returns
returns c = framed_once
