-- Records that pass, one after another: those of runs that are whole, and behind them those of the run that is being written.
use Rattle.std.specs.Prelude.{◌≡◌, ℕ, List, [], map, length, Option, Some, None}
use Rattle.std.specs.List.{AllByRecursion}
use Rattle.ipfix_template.specs.declared.template.Template.{Template}
use Rattle.ipfix_template.specs.DataRecord.{DataRecord, IsKept, kept_record}
use Rattle.ipfix_records.specs.Pieces.{pieces, AreEnds}

-- the records, and the template of the run that is being written, if one is
pub record OutputOf : Type 0 where
  pub given : List DataRecord
  pub writing : Option Template

-- the records of the run that is being written
abbrev pub open_records : Option Template → List (List ℕ) → List DataRecord
open_records None texts = []
open_records (Some t) texts = map (kept_record t) texts

-- octets that are cut at these ends into the records of a template
pub record IsWriting (t : Template) (text ends : List ℕ) : Type 0 where
  pub ends_are : AreEnds 0 ends (length text)
  pub kept : AllByRecursion (IsKept t) (pieces text 0 ends)

pub record IsClosed (text ends : List ℕ) : Type 0 where
  pub no_text : text ≡ []
  pub no_ends : ends ≡ []

abbrev pub IsOutput : Option Template → List ℕ → List ℕ → Type 0
IsOutput None text ends = IsClosed text ends
IsOutput (Some t) text ends = IsWriting t text ends
