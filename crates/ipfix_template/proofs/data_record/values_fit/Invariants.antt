use Rattle.std.proofs.Common.{◌≡◌, drop, length}
use Rattle.ipfix_template.specs.Values.{fit_fields}
use Rattle.ipfix_template.proofs.data_record.values_fit.Given as goal

abbrev pub invariant-loop-field : goal.invariant-loop-field
invariant-loop-field l = fit_fields (drop (length l.yielded) l.fields) (drop (length l.yielded) l.values) ≡ fit_fields l.fields l.values
