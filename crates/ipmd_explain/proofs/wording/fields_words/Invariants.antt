use Rattle.std.proofs.Common.{◌≡◌}
use Rattle.std.specs.Prelude.{string_bytes}
use Rattle.std.specs.List.{flat_map, range_with_len}
use Rattle.ipmd_explain.specs.Wording.{field_words}
use Rattle.ipmd_explain.proofs.wording.fields_words.Given as goal

abbrev pub invariant-fields : goal.invariant-fields
invariant-fields l = string_bytes l.text ≡ flat_map (field_words l.policy.rules l.name l.domain l.flow_record) (range_with_len 0 l.place)
