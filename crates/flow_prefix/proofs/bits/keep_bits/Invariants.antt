use Rattle.std.proofs.Common.{◌≡◌, ◌≤◌, ◌+◌, ◌++◌, length, drop, vec_len, vec_capacity}
use Rattle.flow_prefix.proofs.BitLaws.{kept_from}
use Rattle.flow_prefix.proofs.bits.keep_bits.Given as goal

abbrev pub invariant-loop-octet : goal.invariant-loop-octet
invariant-loop-octet l = record {
  kept : l.out.items ++ kept_from l.left (drop l.octet-index l.octets) ≡ l.initial.out.items ++ kept_from l.initial.left l.octets;
  room : vec_len l.out + length (drop l.octet-index l.octets) ≤ vec_capacity l.out;
}
