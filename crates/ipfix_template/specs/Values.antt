-- The values of a record, as the octets of a Data Set spell them (RFC 7011, sections 3.3.1, 3.4.3 and 7).
use Rattle.std.specs.Prelude.{◌≡◌, ℕ, ◌+◌, Bool, true, false, List, [], ◌∷◌, ◌++◌, length, take, drop, Option, Some, None, Result, MatchBool, nat_lt, nat_le, ◌==◌, ◌&&◌, if◌then◌else◌}
use Rattle.ipfix_octets.specs.Variable.{IsVarText, longest_value, shortest_text, varlen_at}
use Rattle.ipfix_octets.specs.Sequence.{Front, End, Fault, Next, read_all}
use Rattle.sequences.specs.Options.{◌>>=◌}
use Rattle.ipfix_template.specs.declared.field.FieldSpec.{FieldSpec}
use Rattle.ipfix_template.specs.declared.template.Template.{Template}
use Rattle.ipfix_template.specs.Template.{is_variable, shortest_record}

-- the text of a value: the value itself, of the field's length, or a text with a length of its own
abbrev pub IsText : FieldSpec → List ℕ → List ℕ → Type 0
IsText f text value = MatchBool (is_variable f) (IsVarText text value) ((text ≡ value) × (length value ≡ f.length))

-- the octets are the texts of the values, field by field
abbrev pub Splits : List FieldSpec → List ℕ → List (List ℕ) → Type 0
Splits [] octets [] = octets ≡ []
Splits (f ∷ fs) octets (v ∷ vs) = (text rest : List ℕ) × (octets ≡ text ++ rest) × IsText f text v × Splits fs rest vs
Splits [] octets (v ∷ vs) = ⊥
Splits (f ∷ fs) octets [] = ⊥

-- where the value of a field starts at the front of octets, and its length
abbrev pub span_at : FieldSpec → List ℕ → Option (ℕ × ℕ)
span_at f octets =
    if is_variable f then varlen_at octets
    else if nat_le f.length (length octets) then Some (0, f.length) else None

-- the values of fields at the front of octets, and the octets after them
unfoldable pub values_at : List FieldSpec → List ℕ → Option (List (List ℕ) × List ℕ)
values_at [] octets = Some ([], octets)
values_at (f ∷ fs) octets = do
  span ← span_at f octets
  others ← values_at fs (drop (span.0 + span.1) octets)
  Some (take span.1 (drop span.0 octets) ∷ others.0, others.1)

-- the values that were found; none where nothing was
abbrev pub values_found : Option (List (List ℕ) × List ℕ) → List (List ℕ)
values_found None = []
values_found (Some found) = found.0

-- the values of fields at the front of octets; none where the octets end before the last of them
unfoldable pub values_in : List FieldSpec → List ℕ → List (List ℕ)
values_in fields octets = values_found (values_at fields octets)

-- what stands at the front of a Data Set's content: padding, which is shorter than any record, a record, or the
-- beginning of one that runs past the end
abbrev pub found_record : Option (List (List ℕ) × List ℕ) → Front (List (List ℕ)) (Unit {0})
found_record (Some found) = Next (found.0 ∷ []) found.1
found_record None = Fault tt

unfoldable pub record_front : Template → List ℕ → Front (List (List ℕ)) (Unit {0})
record_front t octets = if nat_lt (length octets) (shortest_record t) then End else found_record (values_at t.fields octets)

-- the values of each record of a Data Set's content, unless one runs past its end
abbrev pub records_in : Template → List ℕ → Result (List (List (List ℕ))) (Unit {0})
records_in t octets = read_all (record_front t) octets

-- ---- what is written

-- a value that a record can have in this field
abbrev pub fits_field : FieldSpec → List ℕ → Bool
fits_field f value = if is_variable f then nat_le (length value) longest_value else length value == f.length

-- a value for each field, and each fits its own
abbrev pub fit_fields : List FieldSpec → List (List ℕ) → Bool
fit_fields [] [] = true
fit_fields (f ∷ fs) (v ∷ vs) = fits_field f v && fit_fields fs vs
fit_fields [] (v ∷ vs) = false
fit_fields (f ∷ fs) [] = false

-- a value in its shortest text
abbrev pub value_text : FieldSpec → List ℕ → List ℕ
value_text f value = if is_variable f then shortest_text value else value

-- the values of a record, each in its shortest text
abbrev pub record_text : List FieldSpec → List (List ℕ) → List ℕ
record_text [] values = []
record_text (f ∷ fs) [] = []
record_text (f ∷ fs) (v ∷ vs) = value_text f v ++ record_text fs vs

-- where a value starts in its shortest text
abbrev pub value_start : FieldSpec → ℕ → ℕ
value_start f len = if is_variable f then (if nat_lt len 255 then 1 else 3) else 0

-- how many octets the values of fields take at the front of octets, and whether each stands in its shortest text
unfoldable pub extent_at : List FieldSpec → List ℕ → Option (ℕ × Bool)
extent_at [] octets = Some (0, true)
extent_at (f ∷ fs) octets = do
  span ← span_at f octets
  others ← extent_at fs (drop (span.0 + span.1) octets)
  Some (span.0 + span.1 + others.0, (span.0 == value_start f span.1) && others.1)
