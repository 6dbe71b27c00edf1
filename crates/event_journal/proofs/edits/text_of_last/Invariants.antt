use Rattle.std.proofs.Common.{◌≡◌, ◌≤◌, length, take}
use Rattle.event_journal.specs.LastEdit.{last_edit}
use Rattle.event_journal.proofs.edits.text_of_last.Given as goal

abbrev pub invariant-entries : goal.invariant-entries
invariant-entries l = record {
  within : l.left ≤ length l.entries;
  same : last_edit (take l.left l.entries) ≡ last_edit l.entries;
}

abbrev pub decreases-entries : goal.decreases-entries
decreases-entries l = l.left
