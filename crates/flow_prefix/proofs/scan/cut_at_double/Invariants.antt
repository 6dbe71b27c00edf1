use Rattle.std.proofs.Common.{◌<◌, ◌+◌, ℕ}
use Rattle.flow_prefix.proofs.ScanLaws.{IsDouble}
use Rattle.flow_prefix.proofs.scan.cut_at_double.Given as goal

abbrev pub invariant-loop-at : goal.invariant-loop-at
invariant-loop-at l = (k : ℕ) → k + 1 < l.at → IsDouble l.text k → ⊥
