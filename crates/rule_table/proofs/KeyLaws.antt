-- Keys as numbers: the same key has the same digits.
use Rattle.std.proofs.Common.{◌≡◌, ◌↔◌, ◌⊎◌, ℕ, suc, ◌+◌, ◌*◌, ◌^◌, ◌<◌, ◌≤◌, true, false, List, [], ◌∷◌, length, map, filter, Option, Some, None, cond, refl, ap, sym, ◌∙◌, arith, inl, inr, nat_lt}
use Rattle.std.specs.List.{fold, zip, AllByRecursion}
use Rattle.std.proofs.lemmas.Bool.{cases_lt, lt-ltb, le-ltb}
use Rattle.std.proofs.lemmas.Option.{same_Some}
use Rattle.ipfix_template.specs.declared.field.FieldSpec.{FieldSpec}
use Rattle.ipfix_template.specs.DataRecord.{DataRecord}
use Rattle.policy_judge.specs.declared.occurrences.Side.{Side}
use Rattle.policy_judge.specs.Sides.{is_of}
use Rattle.policy_judge.specs.Occurrences.{values_of}
use Rattle.rule_table.specs.Classes.{digit_of, with_digit, with_field, class_key}

-- ---- the digits of a side's values, from its fields

over_fields : (cuts : List ℕ) (side : Side) (key : Option ℕ) (fields : List (FieldSpec × List ℕ))
    → fold (with_field cuts side) key fields ≡ fold with_digit key (map (digit_of cuts) (map (λ p. p.1) (filter (λ p. is_of side p.0.element) fields)))
over_fields cuts side key [] = refl
over_fields cuts side key (p ∷ ps) =
    elim (is_of side p.0.element) as
    (λ b. fold (with_field cuts side) (cond b (with_digit key (digit_of cuts p.1)) key) ps
    ≡ fold with_digit key (map (digit_of cuts) (map (λ p. p.1) (cond b (p ∷ filter (λ p. is_of side p.0.element) ps) (filter (λ p. is_of side p.0.element) ps)))))
    [ true ↦ over_fields cuts side (with_digit key (digit_of cuts p.1)) ps | false ↦ over_fields cuts side key ps ]

pub key_from_fields : (cuts : List ℕ) (side : Side) (r : DataRecord)
    → fold (with_field cuts side) (Some 1) (zip r.template.fields r.values) ≡ class_key cuts (values_of (is_of side) r)
key_from_fields cuts side r = over_fields cuts side (Some 1) (zip r.template.fields r.values)

-- ---- digits behind a number

abbrev pushed : ℕ → ℕ → ℕ
pushed key digit = key * 65536 + digit

abbrev pub AreDigits : List ℕ → Type 0
AreDigits digits = AllByRecursion (λ d. d < 65536) digits

full : (ds : List ℕ) → fold with_digit None ds ≡ None
full [] = refl
full (d ∷ ds) = full ds

not_full : (ds : List ℕ) (k : ℕ) → fold with_digit None ds ≡ Some k → ⊥
not_full ds k e = let none = full ds in cc

number : (a k : ℕ) (ds : List ℕ) → fold with_digit (Some a) ds ≡ Some k → fold pushed a ds ≡ k
number a k [] e = same_Some a k e
number a k (d ∷ ds) e =
    elim (nat_lt a (2 ^ 48)) as (λ b. fold with_digit (cond b (Some (a * 65536 + d)) None) ds ≡ Some k → fold pushed (a * 65536 + d) ds ≡ k)
    [ true ↦ λ e. number (a * 65536 + d) k ds e | false ↦ λ e. absurd (not_full ds k e) ] e

-- ---- more digits make a greater number

greater : (a b : ℕ) (ds es : List ℕ) → AreDigits ds → length ds ≡ length es → a < b → fold pushed a ds < fold pushed b es
greater a b [] [] small same less = less
greater a b [] (e ∷ es) small same less = absurd (omega arith)
greater a b (d ∷ ds) [] small same less = absurd (omega arith)
greater a b (d ∷ ds) (e ∷ es) (l, small) same less = greater (a * 65536 + d) (b * 65536 + e) ds es small (omega arith) (omega arith)

longer-step : (a b : ℕ) (ds es : List ℕ) → AreDigits ds → length ds < suc (length es) → a < b
    → (length ds < length es → a < b * 65536 → fold pushed a ds < fold pushed b es) → (length ds < length es) ⊎ (length es ≤ length ds) → fold pushed a ds < fold pushed b es
longer-step a b ds es small more less again (inl l) = again l (omega arith)
longer-step a b ds es small more less again (inr l) = greater a b ds es small (omega arith) less

longer : (a b : ℕ) (ds es : List ℕ) → AreDigits ds → length ds < length es → a < b * 65536 → fold pushed a ds < fold pushed b es
longer a b ds [] small more less = absurd (omega arith)
longer a b ds (e ∷ es) small more less =
    longer-step a (b * 65536 + e) ds es small more (omega (arith, less)) (λ l m. longer a (b * 65536 + e) ds es small l m) (cases_lt (length ds) (length es))

same_long : (a b : ℕ) (ds es : List ℕ) → AreDigits ds → AreDigits es → length ds ≡ length es → fold pushed a ds ≡ fold pushed b es → (a ≡ b) × (ds ≡ es)
same_long a b [] [] few small same e = (e, refl)
same_long a b [] (x ∷ es) few small same e = absurd (omega arith)
same_long a b (d ∷ ds) [] few small same e = absurd (omega arith)
same_long a b (d ∷ ds) (x ∷ es) (l, few) (m, small) same e =
    let rest = same_long (a * 65536 + d) (b * 65536 + x) ds es few small (omega arith) e in
    let first : a ≡ b = omega (arith, rest.0, l, m) in
    let last : d ≡ x = omega (arith, rest.0, l, m) in
    let others : ds ≡ es = rest.1 in
    (first, (cc))

same_number : (ds es : List ℕ) → AreDigits ds → AreDigits es → fold pushed 1 ds ≡ fold pushed 1 es → (length ds < length es) ⊎ (length es ≤ length ds) → (length es < length ds) ⊎ (length ds ≤ length es) → ds ≡ es
same_number ds es few small e (inl l) m = absurd (omega (arith, longer 1 1 ds es few l (omega arith), e))
same_number ds es few small e (inr l) (inl m) = absurd (omega (arith, longer 1 1 es ds small m (omega arith), e))
same_number ds es few small e (inr l) (inr m) = (same_long 1 1 ds es few small (omega arith) e).1

pub same_digits : (ds es : List ℕ) (k : ℕ) → AreDigits ds → AreDigits es → fold with_digit (Some 1) ds ≡ Some k → fold with_digit (Some 1) es ≡ Some k → ds ≡ es
same_digits ds es k few small e f =
    same_number ds es few small (number 1 k ds e ∙ sym (number 1 k es f)) (cases_lt (length ds) (length es)) (cases_lt (length es) (length ds))

-- ---- keys of up to three digits

has_room : (a d : ℕ) → a < 2 ^ 48 → with_digit (Some a) d ≡ Some (a * 65536 + d)
has_room a d less = rw (lt-ltb a (2 ^ 48) less) refl

no_room : (a d : ℕ) → 2 ^ 48 ≤ a → with_digit (Some a) d ≡ None
no_room a d most = rw (le-ltb a (2 ^ 48) most) refl

abbrev after_two : ℕ → ℕ → ℕ
after_two a b = (65536 + a) * 65536 + b

two_digits : (a b : ℕ) (ds : List ℕ) → a < 65536 → fold with_digit (Some 1) (a ∷ b ∷ ds) ≡ fold with_digit (Some (after_two a b)) ds
two_digits a b ds l = ap (λ k. fold with_digit k ds) (has_room (65536 + a) b (omega (arith, l)))

three_digits : (a b c : ℕ) (ds : List ℕ) → a < 65536 → b < 65536 → fold with_digit (Some 1) (a ∷ b ∷ c ∷ ds) ≡ fold with_digit (Some (after_two a b * 65536 + c)) ds
three_digits a b c ds l m = two_digits a b (c ∷ ds) l ∙ ap (λ k. fold with_digit k ds) (has_room (after_two a b) c (omega (arith, l, m)))

four_digits : (a b c d : ℕ) (ds : List ℕ) → a < 65536 → b < 65536 → fold with_digit (Some 1) (a ∷ b ∷ c ∷ d ∷ ds) ≡ None
four_digits a b c d ds l m = three_digits a b c (d ∷ ds) l m ∙ ap (λ k. fold with_digit k ds) (no_room (after_two a b * 65536 + c) d (omega arith)) ∙ full ds

none_some : (key : Option ℕ) (k : ℕ) → key ≡ Some k → key ≡ None → ⊥
none_some key k some none = cc

pub none_past_three : (ds : List ℕ) → AreDigits ds → (fold with_digit (Some 1) ds ≡ None) ↔ (3 < length ds)
none_past_three [] few = (λ e. absurd (none_some _ 1 refl e), λ l. absurd (omega (arith, l)))
none_past_three (a ∷ []) few = (λ e. absurd (none_some _ (65536 + a) refl e), λ l. absurd (omega (arith, l)))
none_past_three (a ∷ b ∷ []) (l, few) = (λ e. absurd (none_some _ (after_two a b) (two_digits a b [] l) e), λ l. absurd (omega (arith, l)))
none_past_three (a ∷ b ∷ c ∷ []) (l, (m, few)) = (λ e. absurd (none_some _ (after_two a b * 65536 + c) (three_digits a b c [] l m) e), λ l. absurd (omega (arith, l)))
none_past_three (a ∷ b ∷ c ∷ d ∷ ds) (l, (m, few)) = (λ e. omega arith, λ _. four_digits a b c d ds l m)
