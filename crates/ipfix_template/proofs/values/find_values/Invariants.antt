use Rattle.std.proofs.Common.{◌≡◌, ◌≤◌, take, drop, length}
use Rattle.ipfix_template.specs.Values.{values_at}
use Rattle.ipfix_template.specs.Shown.{values_shown, AreWithin, AreLaid}
use Rattle.sequences.specs.Options.{with_found}
use Rattle.ipfix_template.proofs.values.find_values.Given as goal

abbrev pub invariant-loop-field : goal.invariant-loop-field
invariant-loop-field l = record {
  within : l.used ≤ length l.octets;
  laid : AreLaid (take l.field-index l.fields) 0 l.octets l.spans.items l.used;
  spans : AreWithin l.octets l.spans.items;
  shown : with_found (values_shown l.octets l.spans.items) (values_at (drop l.field-index l.fields) (drop l.used l.octets)) ≡ values_at l.fields l.octets;
}
