-- Plans that are kept, and the records that passed.
use Rattle.std.specs.Prelude.{◌≡◌, ℕ, List, [], ◌∷◌, ◌++◌, set, Option, Some, None, IsSomeAnd, slice_get, ◌⊎◌}
use Rattle.ipfix_template.specs.declared.template.Template.{Template}
use Rattle.ipfix_template.specs.DataRecord.{DataRecord}
use Rattle.flow_anonymize.specs.declared.slot.Slot.{Slot}
use Rattle.flow_anonymize.specs.Outcome.{passed}
use Rattle.flow_anonymize.specs.Planning.{Plan, planned, shown_template}

pub record CacheOf : Type 0 where
  pub slots : List Slot
  pub given : List DataRecord

-- what passes of a record by a plan
abbrev pub passed_by : Plan → DataRecord → List DataRecord
passed_by plan r = passed (planned plan r.values)

-- a plan whose records have the template of the run that is open, where one is named
abbrev pub IsOpen : List Slot → Option Template → Option ℕ → Type 0
IsOpen slots writing None = Unit {0}
IsOpen slots writing (Some place) = IsSomeAnd (slice_get slots place) (λ slot. writing ≡ shown_template slot.plan)

-- it stands at this place now, behind the others or for one of them
pub record IsPut (old : List Slot) (slot : Slot) (place : ℕ) (new : List Slot) : Type 0 where
  pub there : slice_get new place ≡ Some slot
  pub others : (new ≡ old ++ slot ∷ []) ⊎ (new ≡ set old place slot)

-- where something is shown, it is of the template that is written now; else nothing else is written than before
abbrev pub WritesForTemplate : Option Template → Option Template → Option Template → Type 0
WritesForTemplate None old new = new ≡ old
WritesForTemplate (Some t) old new = new ≡ Some t
