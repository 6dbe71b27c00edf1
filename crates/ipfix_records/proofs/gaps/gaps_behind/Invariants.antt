use Rattle.std.proofs.Common.{◌≡◌, ◌++◌, drop}
use Rattle.ipfix_records.specs.Gaps.{gaps_behind}
use Rattle.ipfix_records.proofs.gaps.gaps_behind.Given as goal

abbrev pub invariant-loop-place : goal.invariant-loop-place
invariant-loop-place l = l.gaps.items ++ gaps_behind (drop l.place l.fields) ≡ gaps_behind l.fields
