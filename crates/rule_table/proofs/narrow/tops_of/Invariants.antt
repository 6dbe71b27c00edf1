use Rattle.std.proofs.Common.{◌≡◌, ◌<◌, ◌*◌, ℕ, length, get_or}
use Rattle.rule_table.proofs.narrow.tops_of.Given as goal

abbrev pub invariant-loop-top : goal.invariant-loop-top
invariant-loop-top l = record {
  count : length l.tops.items ≡ l.top;
  each : (k : ℕ) → k < l.top → get_or l.tops.items k 0 ≡ get_or l.cuts (16 * k) 0;
}
