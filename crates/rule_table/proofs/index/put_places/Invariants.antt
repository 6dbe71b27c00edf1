use Rattle.std.proofs.Common.{◌≡◌, ◌%◌, ◌^◌, ◌++◌, take, map}
use Rattle.rule_table.proofs.index.put_places.Given as goal

abbrev pub invariant-loop-entry : goal.invariant-loop-entry
invariant-loop-entry l = l.places.items ≡ l.fn.places.items ++ map (λ entry. entry % 2 ^ 64) (take l.entry-index l.entries)
