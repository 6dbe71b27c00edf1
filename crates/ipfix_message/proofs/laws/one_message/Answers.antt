use Rattle.std.proofs.Common.{sym, ◌∙◌}
use Rattle.sequences.proofs.ResultLaws.{same_Ok}
use Rattle.ipfix_message.proofs.GrammarOnly.{message_only, message_header}
use Rattle.ipfix_message.proofs.laws.one_message.Goals as goal

pub returns : goal.returns
returns c = λ octets g h first second is other. (same_Ok g h (sym (message_header octets g first is) ∙ message_header octets h second other), same_Ok first second (sym (message_only octets g first is) ∙ message_only octets h second other))
