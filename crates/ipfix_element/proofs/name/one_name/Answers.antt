use Rattle.ipfix_element.proofs.NameLaws.{one_name}
use Rattle.ipfix_element.proofs.name.one_name.Goals as goal

pub returns : goal.returns
returns c = one_name
