use Rattle.std.proofs.Common.{◌≡◌, take}
use Rattle.ipfix_template.specs.Values.{values_in}
use Rattle.ipfix_template.specs.Places.{ArePassed}
use Rattle.ipfix_template.proofs.data_record.places.cut_values.Given as goal

abbrev pub invariant-loop-place : goal.invariant-loop-place
invariant-loop-place l = record {
  passed : ArePassed l.fields l.octets l.place l.used;
  values : l.values.items ≡ take l.place (values_in l.fields l.octets);
}
