-- The notes of a message, as they are kept: by stretches, over one list of what is kept back.
use Rattle.std.specs.Prelude.{◌≡◌, ℕ, ◌+◌, ◌≤◌, ◌^◌, List, length, take, drop}
use Rattle.std.specs.List.{flat_map, AllByRecursion}
use Rattle.disclosure_audit.specs.declared.entry.KeptBack.{KeptBack}
use Rattle.disclosure_audit.specs.declared.entry.Note.{Note}
use Rattle.disclosure_audit.specs.declared.stretch.Stretch.{Stretch}
use Rattle.disclosure_audit.specs.Noting.{notes_of_stretch}

-- what is kept back of each record of a stretch
abbrev pub each_of : List KeptBack → Stretch → List KeptBack
each_of all s = take s.len (drop s.from all)

abbrev pub notes_in : List KeptBack → Stretch → List Note
notes_in all s = notes_of_stretch s.first s.count (each_of all s)

abbrev pub stretched_notes : List KeptBack → List Stretch → List Note
stretched_notes all stretches = flat_map (notes_in all) stretches

-- it speaks of what is there, and of places that there are
pub record IsWithinEach (all : List KeptBack) (s : Stretch) : Type 0 where
  pub there : s.from + s.len ≤ length all
  pub places : s.first + s.count ≤ 2 ^ 32

-- the stretches are so, and their notes are counted
pub record AreStretched (all : List KeptBack) (stretches : List Stretch) (notes : ℕ) : Type 0 where
  pub within : AllByRecursion (IsWithinEach all) stretches
  pub counted : notes ≡ length (stretched_notes all stretches)
