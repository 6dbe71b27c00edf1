-- Tests of the values that a filter picks, as tests of what is picked from.
use Rattle.std.proofs.Common.{◌≡◌, ℕ, suc, arith, Bool, true, false, List, [], ◌∷◌, length, get_or, ◌<◌, map, filter, not, cond, refl, ap, sym, ◌∙◌, nat_lt, ◌&&◌, ◌||◌}
use Rattle.std.proofs.lemmas.Bool.Decides.{nat_tests}
use Rattle.std.specs.List.{list_any, list_all, zip}
use Rattle.ipfix_template.specs.declared.field.FieldSpec.{FieldSpec}
use Rattle.ipfix_template.specs.DataRecord.{DataRecord, IsSound}
use Rattle.ipfix_template.proofs.Encoding.{fit_fields-length}
use Rattle.policy_judge.specs.declared.occurrences.Side.{Side}
use Rattle.policy_judge.specs.Sides.{is_of}
use Rattle.policy_judge.proofs.PairLaws.{IsAt, any_first}

pub any_picked : {A B : Type 0} (picks : A → Bool) (view : A → B) (test : B → Bool) (xs : List A)
    → list_any test (map view (filter picks xs)) ≡ list_any (λ x. picks x && test (view x)) xs
any_picked picks view test [] = refl
any_picked picks view test (x ∷ xs) =
    elim (picks x) as (λ b. list_any test (map view (cond b (x ∷ filter picks xs) (filter picks xs))) ≡ ((b && test (view x)) || list_any (λ x. picks x && test (view x)) xs))
    [ true ↦ ap (λ rest. test (view x) || rest) (any_picked picks view test xs) | false ↦ any_picked picks view test xs ]

pub all_picked : {A B : Type 0} (picks : A → Bool) (view : A → B) (test : B → Bool) (xs : List A)
    → list_all test (map view (filter picks xs)) ≡ list_all (λ x. not (picks x) || test (view x)) xs
all_picked picks view test [] = refl
all_picked picks view test (x ∷ xs) =
    elim (picks x) as (λ b. list_all test (map view (cond b (x ∷ filter picks xs) (filter picks xs))) ≡ ((not b || test (view x)) && list_all (λ x. not (picks x) || test (view x)) xs))
    [ true ↦ ap (λ rest. test (view x) && rest) (all_picked picks view test xs) | false ↦ all_picked picks view test xs ]

pub nat_lt-suc : (n : ℕ) → nat_lt 0 (suc n) ≡ true
nat_lt-suc n = grind (arith, nat_tests)

pub some_picked : {A B : Type 0} (picks : A → Bool) (view : A → B) (xs : List A)
    → nat_lt 0 (length (map view (filter picks xs))) ≡ list_any picks xs
some_picked picks view [] = refl
some_picked picks view (x ∷ xs) =
    elim (picks x) as (λ b. nat_lt 0 (length (map view (cond b (x ∷ filter picks xs) (filter picks xs)))) ≡ (b || list_any picks xs))
    [ true ↦ nat_lt-suc (length (map view (filter picks xs))) | false ↦ some_picked picks view xs ]

-- ---- a record's occurrences, field by field

-- there are as many values as fields
pub even : (r : DataRecord) → IsSound r → length r.template.fields ≡ length r.values
even r sound = fit_fields-length r.template.fields r.values sound.fit

-- the field at a place, as it was read
pub field_at : (r : DataRecord) (fields : List FieldSpec) (f : FieldSpec) (i : ℕ) → IsSound r → fields ≡ r.template.fields → i < length fields → f ≡ get_or fields i f
    → IsAt r.template.fields r.values i f
field_at r fields f i sound same lt is = record {
  even = even r sound;
  within = omega (arith, lt, ap length same);
  is = is ∙ ap (λ fs. get_or fs i f) same;
}

pub some_field : (side : Side) (r : DataRecord) (fields : List FieldSpec) {b : Bool} → IsSound r → fields ≡ r.template.fields
    → b ≡ list_any (λ f. is_of side f.element) fields → b ≡ list_any (λ p. is_of side p.0.element) (zip r.template.fields r.values)
some_field side r fields sound same is =
    is ∙ ap (list_any (λ f. is_of side f.element)) same ∙ sym (any_first (λ f. is_of side f.element) r.template.fields r.values (even r sound))

-- what was asked of a field, and of its value
pub is_of_read : (side : Side) (fields : List FieldSpec) (f : FieldSpec) (i : ℕ) (has b : Bool) → f ≡ get_or fields i f → has ≡ is_of side (get_or fields i f).element → has ≡ b
    → is_of side f.element ≡ b
is_of_read side fields f i has b is asked e = ap (λ g. is_of side g.element) is ∙ sym asked ∙ e
