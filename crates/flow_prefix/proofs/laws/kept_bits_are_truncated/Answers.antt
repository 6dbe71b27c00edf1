use Rattle.flow_prefix.proofs.BitLaws.{KeepsBits-kept_octets}
use Rattle.flow_prefix.proofs.laws.kept_bits_are_truncated.Goals as goal

pub returns : goal.returns
returns c = KeepsBits-kept_octets
