use Rattle.std.proofs.Common.{◌≡◌, ◌+◌, take}
use Rattle.event_journal.specs.Sizes.{history_octets}
use Rattle.event_journal.proofs.room.octets_fit.Given as goal

abbrev pub invariant-loop-entry : goal.invariant-loop-entry
invariant-loop-entry l = history_octets (take l.entry-index l.entries) + l.left ≡ l.most
