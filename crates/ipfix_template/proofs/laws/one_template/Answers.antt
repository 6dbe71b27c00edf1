use Rattle.ipfix_template.proofs.WrittenLaws.{one_written}
use Rattle.ipfix_template.proofs.laws.one_template.Goals as goal

pub returns : goal.returns
returns c = one_written
