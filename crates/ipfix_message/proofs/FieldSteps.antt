-- How Field Specifiers are read one after another.
use Rattle.std.proofs.Common.{◌≡◌, ℕ, suc, ◌+◌, ◌-◌, ◌<◌, ◌≤◌, List, [], ◌∷◌, ◌++◌, Option, Some, None, refl, sym, ap, ◌∙◌, arith}
use Rattle.std.proofs.lemmas.List.{append-nil}
use Rattle.ipfix_template.specs.declared.field.FieldSpec.{FieldSpec}
use Rattle.sequences.specs.Options.{◌>>=◌, with_found}
use Rattle.sequences.proofs.OptionLaws.{with_found_push}
use Rattle.ipfix_message.specs.Reading.{field_at, fields_at}

abbrev pub found_fields : List FieldSpec → List ℕ → Option (List FieldSpec × List ℕ)
found_fields fields rest = Some (fields, rest)

-- one field more of so many
pub field_more : (before : List FieldSpec) (f : FieldSpec) (count counter : ℕ) (rest after : List ℕ) (whole : Option (List FieldSpec × List ℕ)) → counter < count → field_at rest ≡ Some (f, after) → with_found before (fields_at (count - counter) rest) ≡ whole → with_found (before ++ f ∷ []) (fields_at (count - (counter + 1)) after) ≡ whole
unfolding fields_at
field_more before f count counter rest after whole lt at e =
    let left : count - counter ≡ suc (count - (counter + 1)) = omega arith in
    let here : fields_at (count - counter) rest ≡ (fields_at (count - (counter + 1)) after >>= λ o. Some (f ∷ o.0, o.1)) = rw (left, at) refl in
    with_found_push before f (fields_at (count - (counter + 1)) after) ∙ ap (with_found before) (sym here) ∙ e

-- a field that is cut off
pub field_cut : (before : List FieldSpec) (count counter : ℕ) (rest : List ℕ) (whole : Option (List FieldSpec × List ℕ)) → counter < count → field_at rest ≡ None → with_found before (fields_at (count - counter) rest) ≡ whole → whole ≡ None
unfolding fields_at
field_cut before count counter rest whole lt at e =
    let left : count - counter ≡ suc (count - (counter + 1)) = omega arith in
    let here : fields_at (count - counter) rest ≡ None = rw (left, at) refl in
    sym e ∙ ap (with_found before) here

-- all of them
pub fields_done : (before : List FieldSpec) (count counter : ℕ) (rest : List ℕ) (whole : Option (List FieldSpec × List ℕ)) → count ≤ counter → with_found before (fields_at (count - counter) rest) ≡ whole → whole ≡ Some (before, rest)
unfolding fields_at
fields_done before count counter rest whole le e =
    let none : count - counter ≡ 0 = omega arith in
    let here : with_found before (fields_at 0 rest) ≡ Some (before, rest) = ap (λ (fs : List FieldSpec). found_fields fs rest) (append-nil before) in
    sym e ∙ ap (λ (n : ℕ). with_found before (fields_at n rest)) none ∙ here
