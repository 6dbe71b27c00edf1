use Rattle.std.proofs.Common.{◌≡◌, ◌≤◌, ◌+◌, ◌++◌, length, map}
use Rattle.std.specs.Vec.{vec_capacity}
use Rattle.std.specs.Vec.Iter.{into_iter_items}
use Rattle.disclosure_audit.specs.Queue.{stamp}
use Rattle.history_verify.proofs.judged.stamped.Given as goal

abbrev pub invariant-notes : goal.invariant-notes
invariant-notes l = record {
  stamped : l.entries.items ++ map (stamp l.position) (into_iter_items l.index-iterator) ≡ map (stamp l.position) l.fn.notes.items;
  room : length l.entries.items + length (into_iter_items l.index-iterator) ≤ vec_capacity l.entries;
}
