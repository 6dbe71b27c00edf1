-- Rules that decide nothing.
use Rattle.std.proofs.Common.{◌≡◌, ℕ, ◌+◌, Bool, true, false, List, [], ◌∷◌, ◌++◌, Option, Some, None, option_map, filter, cond, refl, ap, ◌&&◌, not}
use Rattle.std.specs.List.{find, enumerate_from}
use Rattle.std.specs.Str.{bytes_eq}
use Rattle.policy_text.specs.declared.rule.Rule.{Rule}
use Rattle.policy_judge.specs.Match.{is_met, is_on_records, is_element, matches_record, matches_field, element_at}
use Rattle.policy_judge.specs.Verdicts.{record_verdict_by, element_verdict_by}
use Rattle.policy_judge.specs.Laws.{concerns, NeverMatches, DecidesAlone, ActsAlone, LaterNeverMatters}

not_for : (on who domain cover : Bool) → who ≡ false → (on && ((who && domain) && cover)) ≡ false
not_for true true domain cover e = absurd cc
not_for true false domain cover e = refl
not_for false who domain cover e = refl

not_for_field : (on element who domain cover : Bool) → who ≡ false → (on && (element && ((who && domain) && cover))) ≡ false
not_for_field true element who domain cover e = not_for element who domain cover e
not_for_field false element who domain cover e = refl

pub never_matches : NeverMatches
never_matches = record {
  record_of = λ name domain r rule e. not_for (is_on_records rule.action) (is_met (bytes_eq name) rule.who) _ _ e;
  field_of = λ name domain r element rule e. not_for_field (not (is_on_records rule.action)) (is_met (is_element element) rule.element) (is_met (bytes_eq name) rule.who) _ _ e;
}

-- what is found without those that never pass
pub found_alone : {A : Type 0} (test keep : A → Bool) → ((a : A) → keep a ≡ false → test a ≡ false) → (n m : ℕ) (xs : List A)
    → option_map (λ x. x.1) (find (λ x. test x.1) (enumerate_from n (filter keep xs))) ≡ option_map (λ x. x.1) (find (λ x. test x.1) (enumerate_from m xs))
found_alone test keep never n m [] = refl
found_alone {A} test keep never n m (x ∷ xs) =
    elim (keep x) as (λ b. keep x ≡ b → option_map (λ y. y.1) (find (λ y. test y.1) (enumerate_from n (cond b (x ∷ filter keep xs) (filter keep xs)))) ≡ option_map (λ y. y.1) (cond (test x) (Some (m, x)) (find (λ y. test y.1) (enumerate_from (m + 1) xs)))) [
      | true ↦ λ kept.
          elim (test x) as (λ t. option_map (λ y. y.1) (cond t (Some (n, x)) (find (λ y. test y.1) (enumerate_from (n + 1) (filter keep xs)))) ≡ option_map (λ y. y.1) (cond t (Some (m, x)) (find (λ y. test y.1) (enumerate_from (m + 1) xs))))
          [ true ↦ refl | false ↦ found_alone test keep never (n + 1) (m + 1) xs ]
      | false ↦ λ (left : keep x ≡ false). rw (never x left) (found_alone test keep never n (m + 1) xs)
    ] refl

pub decides_alone : DecidesAlone
decides_alone = record {
  on_record = λ name domain r rules. found_alone (matches_record name domain r) (concerns name) (never_matches.record_of name domain r) 1 1 rules;
  on_field = λ name domain r element rules. found_alone (matches_field name domain r element) (concerns name) (never_matches.field_of name domain r element) 1 1 rules;
}

record_acts : (a b : Option (ℕ × Rule)) → option_map (λ x. x.1) a ≡ option_map (λ x. x.1) b → (record_verdict_by a).action ≡ (record_verdict_by b).action
record_acts None None e = refl
record_acts (Some a) (Some b) e = let same : a.1 ≡ b.1 = cc in ap (λ rule. (record_verdict_by (Some (0, rule))).action) same
record_acts None (Some b) e = absurd cc
record_acts (Some a) None e = absurd cc

element_acts : (a b : Option (ℕ × Rule)) → option_map (λ x. x.1) a ≡ option_map (λ x. x.1) b → (element_verdict_by a).action ≡ (element_verdict_by b).action
element_acts None None e = refl
element_acts (Some a) (Some b) e = let same : a.1 ≡ b.1 = cc in ap (λ rule. (element_verdict_by (Some (0, rule))).action) same
element_acts None (Some b) e = absurd cc
element_acts (Some a) None e = absurd cc

pub acts_alone : ActsAlone
acts_alone = record {
  on_record = λ name domain r rules. record_acts _ _ (decides_alone.on_record name domain r rules);
  on_field = λ name domain r place rules. element_acts _ _ (decides_alone.on_field name domain r (element_at r place) rules);
}

-- what is found up to one that passes
pub found_before : {A : Type 0} (test : A → Bool) (n : ℕ) (front : List A) (x : A) (back : List A) → test x ≡ true
    → find (λ y. test y.1) (enumerate_from n (front ++ x ∷ back)) ≡ find (λ y. test y.1) (enumerate_from n (front ++ x ∷ []))
found_before test n [] x back passes = rw passes refl
found_before test n (y ∷ front) x back passes =
    ap (cond (test y) (Some (n, y))) (found_before test (n + 1) front x back passes)

pub later_never_matters : LaterNeverMatters
later_never_matters = record {
  on_record = λ name domain r front rule back e. ap record_verdict_by (found_before (matches_record name domain r) 1 front rule back e);
  on_field = λ name domain r place front rule back e. ap element_verdict_by (found_before (matches_field name domain r (element_at r place)) 1 front rule back e);
}
