use Rattle.std.specs.Vec.{vec_capacity}
use Rattle.std.specs.Vec.Iter.{into_iter_items}
use Rattle.history_verify.proofs.Appends.{IsAppending}
use Rattle.history_verify.proofs.noted.append.Given as goal

abbrev pub invariant-loop-entry : goal.invariant-loop-entry
invariant-loop-entry l = IsAppending l.fn.audit.items l.fn.entries.items (into_iter_items l.entry-iterator) l.audit.items (vec_capacity l.audit)
