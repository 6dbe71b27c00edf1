-- How far a journal's file was read, and what a verifier was fed of it.
use Rattle.std.specs.Prelude.{◌≡◌, ℕ, ◌≤◌, Bool, List, ◌++◌, Option, Some, None, length}
use Rattle.event_journal.specs.declared.entry.Entry.{Entry}
use Rattle.event_journal.specs.declared.limits.TheConstants.{MOST_ENTRIES}
use Rattle.journal_files.specs.Reading.{entries_behind, file_of}
use Rattle.journal_files.specs.Streaming.{FilePlace, place_behind}
use Rattle.history_verify.specs.declared.verifier.Verifier.{Verifier}
use Rattle.history_verify.specs.Standing.{IsFed, keeps_audit}

-- what is left is read behind these entries, with so many left; of a file that isn't known nothing is said
abbrev pub IsRest : Option (List ℕ) → Option (List ℕ) → List Entry → ℕ → Type 0
IsRest None now h left = Unit {0}
IsRest (Some octets) None h left = ⊥
IsRest (Some octets) (Some rest) h left = file_of octets ≡ entries_behind h left rest

-- these are the entries of the file before this place
pub record IsReadTo (given now : Option (List ℕ)) (place : FilePlace) (h : List Entry) : Type 0 where
  pub there : place ≡ place_behind h place.left
  pub few : length h ≤ MOST_ENTRIES
  pub rest : IsRest given now h place.left

-- these are behind the entries of h
pub record GoesOnTo (given now : Option (List ℕ)) (place : FilePlace) (h : List Entry) : Type 0 where
  pub more : List Entry
  pub reads : IsReadTo given now place (h ++ more)

-- these are they, and a verifier was fed them, which keeps the audit's entries where they are wanted
pub record IsFedTo (wanted : Bool) (given now : Option (List ℕ)) (place : FilePlace) (v : Verifier) : Type 0 where
  pub history : List Entry
  pub reads : IsReadTo given now place history
  pub fed : IsFed v history
  pub kept : keeps_audit v ≡ wanted
