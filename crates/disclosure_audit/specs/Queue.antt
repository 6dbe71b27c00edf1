-- What an audit is to its callers.
use Rattle.std.specs.Prelude.{◌≡◌, ℕ, ◌+◌, ◌-◌, ◌≤◌, Bool, true, List, [], ◌∷◌, ◌++◌, length, map, take, drop, min, Option, Some, None, is_some, IfSome}
use Rattle.std.specs.Option.{option_map}
use Rattle.disclosure_audit.specs.declared.entry.AuditEntry.{AuditEntry}
use Rattle.disclosure_audit.specs.declared.entry.Note.{Note}
use Rattle.disclosure_audit.specs.Noting.{KeptNotes, kept_notes}

-- the entry of a note of the message at a position
abbrev pub stamp : ℕ → Note → AuditEntry
stamp position n = record { position = position; index = n.index; sub = n.sub; what = n.what }

-- ---- entries that wait: they are kept, oldest first, or they are counted alone

-- with more entries behind them
abbrev pub and_behind : Option (List AuditEntry) → List AuditEntry → Option (List AuditEntry)
and_behind entries more = option_map (λ es. es ++ more) entries

-- the oldest of those that are kept, so many or all
abbrev pub oldest_in : ℕ → Option (List AuditEntry) → List AuditEntry
oldest_in most None = []
oldest_in most (Some entries) = take most entries

-- the others
abbrev pub behind_oldest : ℕ → Option (List AuditEntry) → Option (List AuditEntry)
behind_oldest most entries = option_map (drop most) entries

-- all of these notes are there, where they are to be kept
abbrev pub AreThere : Option (List AuditEntry) → KeptNotes → Type 0
AreThere entries notes = IfSome entries (λ es. length notes.notes ≡ notes.count)

-- ---- what waits in an audit

-- those entries, how many they are, and for how many more pieces room is reserved
pub record Waiting : Type 0 where
  pub entries : Option (List AuditEntry)
  pub count : ℕ
  pub spare : ℕ

-- they are kept or not, and those that are kept are counted
pub record KeepsOrCounts (keeps : Bool) (w : Waiting) : Type 0 where
  pub kept : is_some w.entries ≡ keeps
  pub counted : IfSome w.entries (λ entries. length entries ≡ w.count)

abbrev pub with_spare : Waiting → ℕ → Waiting
with_spare w spare = record { entries = w.entries; count = w.count; spare = spare }

-- one entry more, or those of a message's notes, in the reserved room of one piece
abbrev pub and_one : Waiting → AuditEntry → Waiting
and_one w entry = record { entries = and_behind w.entries (entry ∷ []); count = w.count + 1; spare = w.spare - 1 }

abbrev pub and_notes : Waiting → ℕ → KeptNotes → Waiting
and_notes w position n = record { entries = and_behind w.entries (map (stamp position) n.notes); count = w.count + n.count; spare = w.spare - 1 }

-- without the oldest
abbrev pub waiting_without : ℕ → Waiting → Waiting
waiting_without most w = record { entries = behind_oldest most w.entries; count = w.count - most; spare = w.spare }

-- ---- an audit

-- how many entries were drained, how many wait, and those that wait, where they are kept
pub record AuditStanding : Type 0 where
  pub drained : ℕ
  pub waiting : ℕ
  pub entries : Option (List AuditEntry)

-- the standing, the most entries that may wait, and for how many more pieces room is reserved
pub record KeptAudit : Type 0 where
  pub standing : AuditStanding
  pub limit : ℕ
  pub spare : ℕ

abbrev pub audit_over : Waiting → ℕ → ℕ → KeptAudit
audit_over w limit drained = record { standing = record { drained = drained; waiting = w.count; entries = w.entries }; limit = limit; spare = w.spare }

-- how many notes of a message are to be kept for it: as many as may wait, or none where no entry is kept
abbrev pub notes_for : Option (List AuditEntry) → ℕ → ℕ
notes_for None limit = 0
notes_for (Some entries) limit = limit

abbrev pub most_notes : KeptAudit → ℕ
most_notes a = notes_for a.standing.entries a.limit

-- one entry more, behind the others
abbrev pub with_noted : AuditStanding → AuditEntry → AuditStanding
with_noted s entry = record { drained = s.drained; waiting = s.waiting + 1; entries = and_behind s.entries (entry ∷ []) }

-- the same for the notes of the message at a position
abbrev pub with_notes : AuditStanding → ℕ → KeptNotes → AuditStanding
with_notes s position n = record { drained = s.drained; waiting = s.waiting + n.count; entries = and_behind s.entries (map (stamp position) n.notes) }

-- the oldest entries, so many or all, of those that are kept
abbrev pub oldest : ℕ → AuditStanding → List AuditEntry
oldest most s = oldest_in most s.entries

-- what is left without them
abbrev pub without_oldest : ℕ → AuditStanding → AuditStanding
without_oldest most s = record { drained = s.drained + min most s.waiting; waiting = s.waiting - most; entries = behind_oldest most s.entries }

-- all entries that it was ever given are this list: a front of it was drained, and the rest waits, and is kept or counted
pub record StandsIn (s : AuditStanding) (all : List AuditEntry) : Type 0 where
  pub within : s.drained ≤ length all
  pub waiting : s.waiting ≡ length (drop s.drained all)
  pub kept : IfSome s.entries (λ entries. entries ≡ drop s.drained all)

-- what push_reserved says of an audit
abbrev pub TakesEntries : AuditStanding → List AuditEntry → AuditStanding → Type 0
TakesEntries old more new = (all : List AuditEntry) → StandsIn old all → StandsIn new (all ++ more)

-- what push_notes says: these are the notes of which it is given those that are to be kept
abbrev pub TakesNotes : KeptAudit → ℕ → KeptNotes → AuditStanding → Type 0
TakesNotes old position n new = (named : List Note) → n ≡ kept_notes (most_notes old) named → TakesEntries old.standing (map (stamp position) named) new

-- what drain says: where entries are kept they are the next ones of the list, and then it stands behind those
abbrev pub DrainsOldest : AuditStanding → ℕ → List AuditEntry → AuditStanding → Type 0
DrainsOldest old most out new = (all : List AuditEntry) → StandsIn old all → (is_some old.entries ≡ true → out ≡ take most (drop old.drained all)) × StandsIn new all
