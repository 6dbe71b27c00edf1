-- How a file is read from a source, entry by entry, and what each step consumes.
use Rattle.std.specs.Prelude.{◌≡◌, ◌⊎◌, ℕ, ◌+◌, ◌-◌, ◌<◌, Bool, true, false, List, [], ◌∷◌, ◌++◌, length, Option, Some, None, Result, Ok, Err, ◌==◌, if◌then◌else◌}
use Rattle.std.specs.Io.KnownBytes.{Consumes, IsAtEnd}
use Rattle.sequences.specs.Results.{◌>>=◌, FailsBut}
use Rattle.event_journal.specs.declared.entry.Entry.{Entry}
use Rattle.event_journal.specs.Sizes.{entry_octets, history_octets}
use Rattle.journal_files.specs.declared.fault.Fault.{Fault}
use Rattle.journal_files.specs.declared.fault.Fault.TheVariants as fault
use Rattle.journal_files.specs.Faults.{IsDecodingFault}
use Rattle.journal_files.specs.Format.{octets_of}
use Rattle.journal_files.specs.Reading.{Finding, head_of, entry_of, is_past, entries_behind, is_memory}

-- a place in a file: how many entries are left, and the number and the octets of those before it
pub record FilePlace : Type 0 where
  pub left : ℕ
  pub count : ℕ
  pub octets : ℕ

-- the place behind an entry
abbrev pub behind : FilePlace → Entry → FilePlace
behind place entry = record { left = place.left - 1; count = place.count + 1; octets = place.octets + entry_octets entry }

-- behind the entries of h, with so many left
abbrev pub place_behind : List Entry → ℕ → FilePlace
place_behind h left = record { left = left; count = length h; octets = history_octets h }

-- the entry at the front, if it isn't past the limits
unfoldable pub next_entry_of : FilePlace → List ℕ → Finding Entry
next_entry_of place octets = do
  found ← entry_of octets
  if is_past place.count place.octets found.0 then Err fault.BadEntry else Ok found

-- where all entries were read, nothing may stand behind them
abbrev pub end_of : List ℕ → Result (Option (Entry × List ℕ)) Fault
end_of octets = if length octets == 0 then Ok None else Err fault.BadEntry

-- one step: an entry, or the end, or a fault
unfoldable pub entry_step : FilePlace → List ℕ → Result (Option (Entry × List ℕ)) Fault
entry_step place octets = if place.left == 0 then end_of octets else (next_entry_of place octets >>= λ found. Ok (Some found))

-- the octets are those of one entry, or of none; where they are cut off, the source is at its end
pub record IsGathered (octets : List ℕ) (left : Option (List ℕ)) : Type 0 where
  pub whole : (entry : Entry) (rest : List ℕ) → entry_of octets ≡ Ok (entry, rest) → rest ≡ []
  pub cut_off : entry_of octets ≡ Err fault.Truncated → IsAtEnd left

-- the octets begin with an entry that isn't past the limits
pub record IsEntryIn (count size : ℕ) (octets : List ℕ) (entry : Entry) : Type 0 where
  pub rest : List ℕ
  pub read : entry_of octets ≡ Ok (entry, rest)
  pub written : octets ≡ octets_of entry ++ rest
  pub within : is_past count size entry ≡ false

-- they don't, and this is the fault
abbrev pub FailsIn : Fault → ℕ → ℕ → List ℕ → Type 0
FailsIn why count size octets = FailsBut is_memory why (next_entry_of (record { left = 1; count = count; octets = size }) octets) × IsDecodingFault why

-- ---- what a step does to a source

-- these octets were consumed, and they show the fault; where the file is cut off, nothing comes after them
pub record ShowsFault (why : Fault) (A : Type 0) (read : List ℕ → Result A Fault) (given left : Option (List ℕ)) : Type 0 where
  pub piece : List ℕ
  pub consumed : Consumes given left piece
  pub shown : read piece ≡ Err why
  pub end : why ≡ fault.Truncated → IsAtEnd left

-- some octets were consumed, of which nothing is told
pub record Loses (given left : Option (List ℕ)) : Type 0 where
  pub piece : List ℕ
  pub consumed : Consumes given left piece

-- the octets by which an entry is written are read as that entry, whatever follows
abbrev pub IsReadBack : Entry → Type 0
IsReadBack entry = (rest : List ℕ) → entry_of (octets_of entry ++ rest) ≡ Ok (entry, rest)

-- an entry was read, by the octets by which it is written
pub record TakesEntry (old : FilePlace) (given left : Option (List ℕ)) (entry : Entry) (new : FilePlace) : Type 0 where
  pub some : 0 < old.left
  pub consumed : Consumes given left (octets_of entry)
  pub within : is_past old.count old.octets entry ≡ false
  pub read_back : IsReadBack entry
  pub place : new ≡ behind old entry

-- all entries were read, and the source is at its end
pub record EndsFile (old : FilePlace) (given left : Option (List ℕ)) (new : FilePlace) : Type 0 where
  pub none : old.left ≡ 0
  pub consumed : Consumes given left []
  pub end : IsAtEnd left
  pub same : new ≡ old

-- a source that failed, or want of memory
abbrev pub FailsToGather : Fault → Bool → Bool → Type 0
FailsToGather e was_failed has_failed = ((e ≡ fault.Read) × (has_failed ≡ true)) ⊎ ((e ≡ fault.OutOfMemory) × (has_failed ≡ was_failed))

-- why nothing was read; no sink is written to here
abbrev pub StopsReadingFile : {A : Type 0} → Fault → (List ℕ → Result A Fault) → Option (List ℕ) → Option (List ℕ) → Bool → Bool → Type 0
StopsReadingFile fault.Read read given left was_failed has_failed = Loses given left × (has_failed ≡ true)
StopsReadingFile fault.OutOfMemory read given left was_failed has_failed = Loses given left × (has_failed ≡ was_failed)
StopsReadingFile {A} fault.BadMagic read given left was_failed has_failed = ShowsFault fault.BadMagic A read given left × (has_failed ≡ was_failed)
StopsReadingFile {A} fault.BadVersion read given left was_failed has_failed = ShowsFault fault.BadVersion A read given left × (has_failed ≡ was_failed)
StopsReadingFile {A} fault.Truncated read given left was_failed has_failed = ShowsFault fault.Truncated A read given left × (has_failed ≡ was_failed)
StopsReadingFile {A} fault.BadEntry read given left was_failed has_failed = ShowsFault fault.BadEntry A read given left × (has_failed ≡ was_failed)
StopsReadingFile (fault.Write sent) read given left was_failed has_failed = ⊥

-- ---- laws

-- what follows a step
abbrev pub after_step : List Entry → ℕ → Result (Option (Entry × List ℕ)) Fault → Result (List Entry) Fault
after_step h left (Ok None) = Ok h
after_step h left (Ok (Some found)) = entries_behind (h ++ found.0 ∷ []) (left - 1) found.1
after_step h left (Err why) = Err why

-- the entries of a file are read by one step after another
abbrev pub StepByStep : Type 0
StepByStep = (h : List Entry) (left : ℕ) (octets : List ℕ) → entries_behind h left octets ≡ after_step h left (entry_step (place_behind h left) octets)

-- a fault that shows in a step is the same whatever follows, but that a file is cut off
abbrev pub FaultStays : Type 0
FaultStays = (place : FilePlace) (octets more : List ℕ) (why : Fault) → (why ≡ fault.Truncated → ⊥) → entry_step place octets ≡ Err why → entry_step place (octets ++ more) ≡ Err why

-- and so is one that shows in the head
abbrev pub HeadStays : Type 0
HeadStays = (octets more : List ℕ) (why : Fault) → (why ≡ fault.Truncated → ⊥) → head_of octets ≡ Err why → head_of (octets ++ more) ≡ Err why
