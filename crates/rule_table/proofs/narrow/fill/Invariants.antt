use Rattle.std.proofs.Common.{◌≡◌, ◌≤◌, ◌<◌, ◌^◌, ◌-◌, ℕ, length, get_or}
use Rattle.std.specs.List.Sorted.{IsNonDecreasing}
use Rattle.rule_table.specs.Classes.{class_of}
use Rattle.rule_table.proofs.narrow.fill.Given as goal

abbrev pub invariant-cuts : goal.invariant-cuts
invariant-cuts l = record {
  ascending : IsNonDecreasing l.cuts.items;
  low : (k : ℕ) → k < length l.cuts.items → get_or l.cuts.items k 0 < 2 ^ 32;
  room : length l.cuts.items ≤ l.count;
  same : (address : ℕ) → address < 2 ^ 32 → class_of l.cuts.items address ≡ class_of l.fn.cuts.items address;
}

abbrev pub decreases-cuts : goal.decreases-cuts
decreases-cuts l = l.count - length l.cuts.items
