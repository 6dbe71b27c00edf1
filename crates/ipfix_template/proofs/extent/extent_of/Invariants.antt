use Rattle.std.proofs.Common.{◌≡◌, ◌≤◌, drop, length}
use Rattle.ipfix_template.specs.Values.{extent_at}
use Rattle.ipfix_template.proofs.ExtentLaws.{with_extent}
use Rattle.ipfix_template.proofs.extent.extent_of.Given as goal

abbrev pub invariant-loop-field : goal.invariant-loop-field
invariant-loop-field l = record {
  within : l.used ≤ length l.octets;
  measured : with_extent l.used l.is_shortest (extent_at (drop l.field-index l.fields) (drop l.used l.octets)) ≡ extent_at l.fields l.octets;
}
