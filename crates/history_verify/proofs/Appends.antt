-- A list to which entries are appended, one after another.
use Rattle.std.proofs.Common.{◌≡◌, ℕ, ◌+◌, ◌≤◌, List, ◌++◌, length}
use Rattle.disclosure_audit.specs.declared.entry.AuditEntry.{AuditEntry}

-- some are there, and there is room for those that wait
pub record IsAppending (before entries waiting now : List AuditEntry) (capacity : ℕ) : Type 0 where
  pub whole : now ++ waiting ≡ before ++ entries
  pub room : length now + length waiting ≤ capacity
