-- Where the addresses of a side stand in each record of a template: the template fixes the place of a value of fixed length
-- before which only such fields stand (RFC 7011, section 3.4.3).
use Rattle.std.specs.Prelude.{◌≡◌, ◌==◌, ◌<◌, ◌≤◌, ℕ, ◌+◌, List, [], length, take, drop, map, slice_index_or, Option, Some, None, if◌then◌else◌}
use Rattle.std.specs.List.{All}
use Rattle.ipfix_template.specs.declared.field.FieldSpec.{FieldSpec}
use Rattle.ipfix_template.specs.declared.template.Template.{Template}
use Rattle.ipfix_template.specs.Template.{is_variable}
use Rattle.ipfix_template.specs.Values.{record_text}
use Rattle.ipfix_template.specs.DataRecord.{DataRecord, IsSound}
use Rattle.policy_judge.specs.declared.occurrences.Side.{Side}
use Rattle.policy_judge.specs.declared.occurrences.Side.TheVariants.{Source, Destination}
use Rattle.policy_judge.specs.Sides.{is_of}
use Rattle.policy_judge.specs.Occurrences.{values_of}
use Rattle.rule_table.specs.declared.place.Place.{Place}
use Rattle.rule_table.specs.declared.place.Place.TheVariants.{Narrow, Wide, Field}

-- a record's octets are its values in their shortest texts
abbrev pub text_of : DataRecord → List ℕ
text_of r = record_text r.template.fields r.values

-- what a record shows at a place
abbrev pub value_at : DataRecord → Place → List ℕ
value_at r (Narrow from) = take 4 (drop from (text_of r))
value_at r (Wide from) = take 16 (drop from (text_of r))
value_at r (Field index) = slice_index_or r.values index []

-- a record has a place
abbrev pub HasPlace : DataRecord → Place → Type 0
HasPlace r (Narrow from) = from + 4 ≤ length (text_of r)
HasPlace r (Wide from) = from + 16 ≤ length (text_of r)
HasPlace r (Field index) = index < length r.template.fields

-- a record has these places, and shows these values there
pub record ShowsAt (r : DataRecord) (places : List Place) (shown : List (List ℕ)) : Type 0 where
  pub within : All (HasPlace r) places
  pub values : map (value_at r) places ≡ shown

-- each record of these fields shows its addresses of the side there
abbrev pub ArePlaces : Side → List FieldSpec → List Place → Type 0
ArePlaces side fields places = (r : DataRecord) → IsSound r → r.template.fields ≡ fields → ShowsAt r places (values_of (is_of side) r)

pub record AreAddressPlaces (t : Template) (sources destinations : List Place) : Type 0 where
  pub of_sources : ArePlaces Source t.fields sources
  pub of_destinations : ArePlaces Destination t.fields destinations

-- where a field's value stands, if it starts here in each record, or if no such place is known
abbrev pub place_at : Option ℕ → FieldSpec → ℕ → Place
place_at None f index = Field index
place_at (Some start) f index = if f.length == 4 then Narrow start else if f.length == 16 then Wide start else Field index

-- where the value behind it starts, if that is known
abbrev pub start_behind : Option ℕ → FieldSpec → Option ℕ
start_behind None f = None
start_behind (Some start) f = if is_variable f then None else Some (start + f.length)
