use Rattle.std.proofs.Common.{ℕ, ◌<◌, get_or}
use Rattle.rule_table.proofs.heads.count_on.Given as goal

abbrev pub invariant-loop-place : goal.invariant-loop-place
invariant-loop-place l = (k : ℕ) → k < l.place → get_or l.cuts k 0 < l.address
