-- The answer that has drained entries, and what is written of an answer.
use Rattle.std.specs.Prelude.{◌≡◌, ℕ, ◌+◌, ◌≤◌, ◌^◌, Bool, List, ◌∷◌, ◌++◌, length, codes, Option}
use Rattle.std.specs.List.{flat_map}
use Rattle.std.specs.Fmt.{decimal}
use Rattle.std.specs.Io.KnownBytes.{Appends}
use Rattle.octet_io.specs.Written.{WritesFront}
use Rattle.disclosure_audit.specs.declared.entry.AuditEntry.{AuditEntry}
use Rattle.disclosure_audit.specs.Lines.{audit_line}
use Rattle.answer_writing.specs.declared.writing.Stopped.{Stopped}
use Rattle.answer_writing.specs.declared.writing.Stopped.TheVariants.{Failed, Uncounted}

-- how many entries there are, and then a line for each
abbrev pub drained_octets : List AuditEntry → List ℕ
drained_octets entries = codes "ok " ++ decimal (length entries) ++ 10 ∷ flat_map audit_line entries

-- all was written behind so many octets, and counted
pub record WritesAll (due : List ℕ) (sent count : ℕ) (held holds : Option (List ℕ)) : Type 0 where
  pub written : Appends held holds due
  pub counted : count ≡ sent + length due

-- the sink failed inside what was due, behind so many octets in all; or they can't be counted, and none was written
abbrev pub StopsWriting : Stopped → List ℕ → ℕ → Option (List ℕ) → Option (List ℕ) → Bool → Bool → Type 0
StopsWriting (Failed count) due sent held holds had_failed has_failed = (front : ℕ) × (count ≡ sent + front) × WritesFront held holds due front has_failed
StopsWriting Uncounted due sent held holds had_failed has_failed = (holds ≡ held) × (has_failed ≡ had_failed) × (2 ^ 64 ≤ sent + length due)
