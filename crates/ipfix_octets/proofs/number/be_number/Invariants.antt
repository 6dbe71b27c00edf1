use Rattle.std.proofs.Common.{◌≡◌, take, ◌<◌, ◌^◌}
use Rattle.sequences.specs.Octets.{be_value}
use Rattle.ipfix_octets.proofs.number.be_number.Given as goal

abbrev pub invariant-loop-octet : goal.invariant-loop-octet
invariant-loop-octet l = (l.number ≡ be_value (take l.octet-index l.octets)) × (l.number < 256 ^ l.octet-index)
