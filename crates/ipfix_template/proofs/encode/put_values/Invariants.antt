use Rattle.std.proofs.Common.{◌≡◌, ◌≤◌, ◌++◌, take, length}
use Rattle.std.specs.Prelude.{vec_capacity}
use Rattle.ipfix_template.specs.Values.{record_text}
use Rattle.ipfix_template.proofs.encode.put_values.Given as goal

abbrev pub invariant-loop-field : goal.invariant-loop-field
invariant-loop-field l = record {
  items : l.out.items ≡ l.fn.out.items ++ record_text (take (length l.yielded) l.fields) (take (length l.yielded) l.values);
  capacity : vec_capacity l.fn.out ≤ vec_capacity l.out;
}
