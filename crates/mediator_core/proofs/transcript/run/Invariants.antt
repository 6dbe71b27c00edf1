use Rattle.std.proofs.Common.{◌≡◌, ◌+◌, ◌≤◌, List, ◌++◌, length}
use Rattle.std.specs.Prelude.{vec_capacity}
use Rattle.std.specs.Vec.Iter.{into_iter_items}
use Rattle.mediator_calls.specs.declared.call.Reply.{Reply}
use Rattle.mediator_calls.specs.Mediation.{Mediation, started}
use Rattle.mediator_core.specs.Runs.{Runs}
use Rattle.mediator_core.proofs.transcript.run.Given as goal

abbrev pub invariant-calls : goal.invariant-calls
invariant-calls l = record {
  room : length l.replies.items + length (into_iter_items l.call-iterator) ≤ vec_capacity l.replies;
  run : (later : List Reply) (end : Mediation) → Runs l.mediator (into_iter_items l.call-iterator) later end → Runs (started l.fn.limits) l.fn.calls.items (l.replies.items ++ later) end;
}
