-- The notes of a message, of which so many at most are kept, and all are counted: an audit that has no room for all of them takes none.
-- All of this is this project's own rule.
use Rattle.std.specs.Prelude.{ℕ, zero, suc, ◌+◌, ◌-◌, List, [], ◌++◌, length, map, take}
use Rattle.disclosure_audit.specs.declared.entry.Note.{Note}
use Rattle.disclosure_audit.specs.declared.entry.KeptBack.{KeptBack}
use Rattle.disclosure_audit.specs.declared.entry.AuditEntry.{AuditEntry}

-- those that are kept, how many there are in all, and how many may be kept
pub record KeptNotes : Type 0 where
  pub notes : List Note
  pub count : ℕ
  pub most : ℕ

-- of a whole list its front is kept
abbrev pub kept_notes : ℕ → List Note → KeptNotes
kept_notes most all = record { notes = take most all; count = length all; most = most }

-- with more notes behind them
abbrev pub and_more : KeptNotes → List Note → KeptNotes
and_more k more = record { notes = k.notes ++ take (k.most - length k.notes) more; count = k.count + length more; most = k.most }

-- ---- stretches: records side by side of which the same is kept back

-- the note of the record at a place
abbrev pub note_at : ℕ → KeptBack → Note
note_at index kept = record { index = index; sub = kept.sub; what = kept.what }

-- of so many records from the first on, the same of each
abbrev pub notes_of_stretch : ℕ → ℕ → List KeptBack → List Note
notes_of_stretch first zero each = []
notes_of_stretch first (suc n) each = map (note_at first) each ++ notes_of_stretch (suc first) n each

-- an entry without the position of its message
abbrev pub unstamped : AuditEntry → Note
unstamped entry = record { index = entry.index; sub = entry.sub; what = entry.what }
