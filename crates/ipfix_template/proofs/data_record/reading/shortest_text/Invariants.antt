use Rattle.std.proofs.Common.{◌≡◌, ◌≤◌, length, take, drop}
use Rattle.ipfix_template.specs.Values.{Splits, values_in, record_text}
use Rattle.ipfix_template.proofs.data_record.reading.shortest_text.Given as goal

abbrev pub invariant-loop-field : goal.invariant-loop-field
invariant-loop-field l = record {
  few : length l.rest ≤ length l.text;
  left : Splits (drop l.field-index l.fields) l.rest (drop l.field-index (values_in l.fields l.text));
  octets : l.octets.items ≡ record_text (take l.field-index l.fields) (take l.field-index (values_in l.fields l.text));
}
