use Rattle.std.proofs.Common.{◌≡◌}
use Rattle.journal_files.specs.Reading.{entries_behind}
use Rattle.journal_files.proofs.decoding.put_entries.Given as goal

abbrev pub invariant-entries : goal.invariant-entries
invariant-entries l = record {
  limits : l.journal.limits ≡ l.fn.journal.limits;
  read : entries_behind l.journal.entries l.left l.rest ≡ entries_behind l.fn.journal.entries l.count l.octets;
}

abbrev pub decreases-entries : goal.decreases-entries
decreases-entries l = l.left
