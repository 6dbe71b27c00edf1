use Rattle.std.proofs.Common.{◌≡◌, ◌≤◌, ◌+◌, ◌*◌, drop}
use Rattle.ipfix_records.specs.Gaps.{first_gap}
use Rattle.ipfix_records.proofs.gaps.first_gap.Given as goal

abbrev pub invariant-loop-field : goal.invariant-loop-field
invariant-loop-field l = record {
  few : l.octets ≤ 65535 * l.field-index;
  left : l.octets + first_gap (drop l.field-index l.fields) ≡ first_gap l.fields;
}
