-- The lines of audit entries, and what was written of them.
use Rattle.std.specs.Prelude.{ℕ, ◌≤◌, Bool, List, [], length, take, Option, if◌then◌else◌}
use Rattle.std.specs.List.{flat_map}
use Rattle.std.specs.Io.KnownBytes.{Appends}
use Rattle.disclosure_audit.specs.declared.entry.AuditEntry.{AuditEntry}
use Rattle.disclosure_audit.specs.Lines.{audit_line}

-- the lines of entries, one after another
abbrev pub audit_text : List AuditEntry → List ℕ
audit_text entries = flat_map audit_line entries

-- none of them where the audit isn't asked for
abbrev pub lines_for : Bool → List AuditEntry → List ℕ
lines_for asked entries = if asked then audit_text entries else []

-- a front of these octets was written
pub record WritesBeginning (held holds : Option (List ℕ)) (octets : List ℕ) : Type 0 where
  pub count : ℕ
  pub within : count ≤ length octets
  pub written : Appends held holds (take count octets)

-- the octets begin with those that were due before: all of these were written, and a front of the rest
pub record WritesOn (held holds : Option (List ℕ)) (before octets : List ℕ) : Type 0 where
  pub count : ℕ
  pub least : length before ≤ count
  pub within : count ≤ length octets
  pub written : Appends held holds (take count octets)
