-- What a layout keeps of its template.
use Rattle.std.specs.Prelude.{◌≡◌, ℕ, List}
use Rattle.ipfix_template.specs.declared.template.Template.{Template}
use Rattle.ipfix_template.specs.Template.{shortest_record}
use Rattle.ipfix_records.specs.Gaps.{first_gap, gaps_behind}

-- the shortest record, and the octets of fixed length before, between and behind the fields of variable length
pub record IsLaidOut (t : Template) (shortest first : ℕ) (gaps : List ℕ) : Type 0 where
  pub least : shortest ≡ shortest_record t
  pub before : first ≡ first_gap t.fields
  pub behind : gaps ≡ gaps_behind t.fields
