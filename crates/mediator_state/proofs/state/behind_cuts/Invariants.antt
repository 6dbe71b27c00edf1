use Rattle.std.proofs.Common.{◌≡◌, ◌≤◌, ◌+◌, length, map, take}
use Rattle.std.specs.Prelude.{vec_capacity}
use Rattle.event_journal.specs.declared.entry.Entry.TheVariants.{Cut}
use Rattle.mediator_state.proofs.state.behind_cuts.Given as goal

abbrev pub invariant-cuts : goal.invariant-cuts
invariant-cuts l = record {
  made : l.entries.items ≡ map Cut (take l.sub-index l.cuts);
  room : length l.cuts + 1 ≤ vec_capacity l.entries;
}
