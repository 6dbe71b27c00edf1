use Rattle.std.proofs.Common.{◌≡◌, ◌<◌, ◌^◌, take}
use Rattle.sequences.specs.Octets.{be_value}
use Rattle.flow_prefix.proofs.bits.number.Given as goal

abbrev pub invariant-loop-octet : goal.invariant-loop-octet
invariant-loop-octet l = record {
  value : l.value ≡ be_value (take l.octet-index l.octets);
  below : l.value < 256 ^ l.octet-index;
}
