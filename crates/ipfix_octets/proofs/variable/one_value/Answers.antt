use Rattle.ipfix_octets.proofs.VariableLaws.{one_reading}
use Rattle.ipfix_octets.proofs.variable.one_value.Goals as goal

pub returns : goal.returns
returns c = one_reading
