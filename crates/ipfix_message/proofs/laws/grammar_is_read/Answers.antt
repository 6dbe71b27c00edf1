use Rattle.ipfix_message.proofs.GrammarFound.{message_found}
use Rattle.ipfix_message.proofs.GrammarOnly.{message_only, message_header}
use Rattle.ipfix_message.proofs.laws.grammar_is_read.Goals as goal

pub returns-clause-found : goal.returns-clause-found
returns-clause-found c = message_found

pub returns-clause-only : goal.returns-clause-only
returns-clause-only c = λ octets h said is. (message_only octets h said is, message_header octets h said is)
