use Rattle.std.proofs.Common.{◌≡◌, ◌≤◌, ◌+◌, ◌++◌, length, map}
use Rattle.std.specs.Vec.{vec_capacity}
use Rattle.std.specs.Vec.Iter.{into_iter_items}
use Rattle.disclosure_audit.specs.Noting.{unstamped}
use Rattle.disclosure_audit.proofs.notes.noted.Given as goal

abbrev pub invariant-entries : goal.invariant-entries
invariant-entries l = record {
  noted : l.notes.items ++ map unstamped (into_iter_items l.index-iterator) ≡ map unstamped l.fn.entries.items;
  room : length l.notes.items + length (into_iter_items l.index-iterator) ≤ vec_capacity l.notes;
}
