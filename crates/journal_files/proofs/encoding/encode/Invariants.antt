use Rattle.std.proofs.Common.{◌≡◌, ◌≤◌, ◌-◌, ◌++◌, length, take}
use Rattle.journal_files.specs.Format.{head_octets, history_in_octets}
use Rattle.journal_files.proofs.encoding.encode.Given as goal

abbrev pub invariant-entries : goal.invariant-entries
invariant-entries l = record {
  within : l.position ≤ length l.journal.entries;
  written : l.file.items ≡ head_octets (length l.journal.entries) ++ history_in_octets (take l.position l.journal.entries);
}

abbrev pub decreases-entries : goal.decreases-entries
decreases-entries l = length l.journal.entries - l.position
