use Rattle.ipfix_element.proofs.NameLaws.{one_word}
use Rattle.ipfix_element.proofs.name.one_word.Goals as goal

pub returns : goal.returns
returns c = one_word
