-- The first rule that matches, by its place.
use Rattle.std.proofs.Common.{◌≡◌, ℕ, suc, ◌+◌, ◌<◌, ◌≤◌, sym, Bool, true, false, List, [], ◌∷◌, length, Option, Some, None, get_or, not, cond, refl, ap, ◌∙◌, arith, add-zero, nat_lt}
use Rattle.std.proofs.lemmas.Bool.{ltb-false}
use Rattle.std.proofs.lemmas.Option.{slice_get-get_or, slice_get_past}
use Rattle.std.specs.Prelude.{slice_get, option_map}
use Rattle.std.specs.List.{find, enumerate_from, position_or_len, position}
use Rattle.policy_text.specs.declared.rule.Rule.{Rule}
use Rattle.ipfix_element.specs.Element.{Element}
use Rattle.ipfix_template.specs.declared.field.FieldSpec.{FieldSpec}
use Rattle.ipfix_template.specs.DataRecord.{DataRecord}
use Rattle.policy_judge.specs.Match.{matches_record, matches_field, element_at}
use Rattle.policy_judge.specs.Verdicts.{first_rule, record_verdict_by, element_verdict_by, record_verdict_of, element_verdict_of, numbered_rule, record_verdict_at, element_verdict_at}

abbrev with_number : {A : Type 0} → ℕ → A → ℕ × A
with_number n a = (n, a)

-- the first that passes, with its number, is the one at its place
found_at : {A : Type 0} (test : A → Bool) (n : ℕ) (xs : List A)
    → option_map (with_number (n + position_or_len test xs)) (slice_get xs (position_or_len test xs)) ≡ find (λ x. test x.1) (enumerate_from n xs)
found_at test n [] = refl
found_at {A} test n (x ∷ xs) =
    let place = position_or_len test xs in
    elim (test x) as (λ b. option_map (with_number (n + cond (not b) (1 + place) 0)) (slice_get (x ∷ xs) (cond (not b) (1 + place) 0)) ≡ cond b (Some (n, x)) (find (λ y. test y.1) (enumerate_from (n + 1) xs))) [
      | true ↦ ap (λ i. Some (with_number i x)) (add-zero n)
      | false ↦
          let next : 1 + place ≡ suc place = omega arith in
          let number : n + suc place ≡ n + 1 + place = omega arith in
          ap (λ k. option_map (with_number (n + k)) (slice_get (x ∷ xs) k)) next ∙ ap (λ i. option_map (with_number i) (slice_get xs place)) number ∙ found_at test (n + 1) xs
    ]

-- an answer of `position` is the place of the first rule that matches
pub numbered_first : (matches : Rule → Bool) (rules : List Rule) → numbered_rule rules (position matches rules) ≡ first_rule matches rules
numbered_first matches rules =
    let place = position_or_len matches rules in
    elim (nat_lt place (length rules)) as (λ b. nat_lt place (length rules) ≡ b → numbered_rule rules (cond b (Some place) None) ≡ first_rule matches rules) [
      | true ↦ λ t.
          let number : place + 1 ≡ 1 + place = omega arith in
          ap (λ i. option_map (with_number i) (slice_get rules place)) number ∙ found_at matches 1 rules
      | false ↦ λ t.
          let past : length rules ≤ place = ltb-false _ _ t in
          sym (ap (option_map (with_number (1 + place))) (slice_get_past rules place past)) ∙ found_at matches 1 rules
    ] refl

-- ---- the verdict of that place

pub record_verdict_first : (name : List ℕ) (domain : ℕ) (r : DataRecord) (rules : List Rule) → record_verdict_at rules (position (matches_record name domain r) rules) ≡ record_verdict_of name domain r rules
record_verdict_first name domain r rules = ap record_verdict_by (numbered_first (matches_record name domain r) rules)

pub element_verdict_first : (name : List ℕ) (domain : ℕ) (r : DataRecord) (field : ℕ) (rules : List Rule)
    → element_verdict_at rules (position (matches_field name domain r (element_at r field)) rules) ≡ element_verdict_of name domain r field rules
element_verdict_first name domain r field rules = ap element_verdict_by (numbered_first (matches_field name domain r (element_at r field)) rules)

pub element_there : (r : DataRecord) (fields : List FieldSpec) (place : ℕ) (f : FieldSpec) → fields ≡ r.template.fields → place < length fields
    → element_at r place ≡ Some (get_or fields place f).element
element_there r fields place f same within = ap (λ fs. option_map (λ g. g.element) (slice_get fs place)) (sym same) ∙ ap (option_map (λ g. g.element)) (slice_get-get_or fields place f within)
