use Rattle.ipfix_message.proofs.GrammarOnly.{message_only}
use Rattle.ipfix_message.proofs.Answering.{gives_found, gives_only}
use Rattle.ipfix_message.proofs.sets.items.Goals as goal

pub returns-clause-found : goal.returns-clause-found
returns-clause-found c = gives_found c.args.octets.now c.read_items.result c.read_items.ensures.exact

pub returns-clause-only : goal.returns-clause-only
returns-clause-only c = λ h said is. gives_only c.args.octets.now c.read_items.result said (message_only c.args.octets.now h said is) c.read_items.ensures.exact
