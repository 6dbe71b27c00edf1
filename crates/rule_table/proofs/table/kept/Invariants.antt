use Rattle.std.proofs.Common.{◌≡◌, take, filter}
use Rattle.rule_table.specs.Candidates.{passes}
use Rattle.rule_table.specs.Covering.{applies_by}
use Rattle.rule_table.proofs.table.kept.Given as goal

abbrev pub invariant-loop-place : goal.invariant-loop-place
invariant-loop-place l = l.kept.items ≡ filter (passes (applies_by l.name l.domain l.from l.to) l.rules) (take l.place-index l.places)
