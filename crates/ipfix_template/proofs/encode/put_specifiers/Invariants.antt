use Rattle.std.proofs.Common.{◌≡◌, ◌≤◌, ◌++◌, take}
use Rattle.std.specs.Prelude.{vec_capacity}
use Rattle.std.specs.List.{flat_map}
use Rattle.ipfix_template.specs.Template.{specifier}
use Rattle.ipfix_template.proofs.encode.put_specifiers.Given as goal

abbrev pub invariant-loop-field : goal.invariant-loop-field
invariant-loop-field l = record {
  items : l.out.items ≡ l.fn.out.items ++ flat_map specifier (take l.field-index l.fields);
  capacity : vec_capacity l.fn.out ≤ vec_capacity l.out;
}
