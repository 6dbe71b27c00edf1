use Rattle.std.proofs.Common.{◌≡◌, Some, take}
use Rattle.std.specs.List.{fold}
use Rattle.rule_table.specs.Spans.{AreSpans}
use Rattle.rule_table.proofs.PlaceLaws.{with_place}
use Rattle.rule_table.proofs.keys.key_of_several.Given as goal

abbrev pub invariant-loop-place : goal.invariant-loop-place
invariant-loop-place l = (l.key ≡ fold (with_place l.classes l.flow_record) (Some 1) (take l.place-index l.places)) × AreSpans l.classes l.spans
