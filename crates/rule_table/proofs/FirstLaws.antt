-- The first of all rules that passes is the first of the candidates that passes.
use Rattle.std.proofs.Common.{◌≡◌, ◌⊎◌, ℕ, zero, suc, ◌+◌, ◌<◌, ◌≤◌, Bool, true, false, List, [], ◌∷◌, length, get_or, Option, Some, None, cond, not, option_map, refl, ap, ◌∙◌, arith, inl, inr, nat_lt}
use Rattle.std.specs.Prelude.{slice_get}
use Rattle.std.specs.List.{Contains, find, position, position_or_len, list_any, list_all}
use Rattle.std.specs.List.Sorted.{IsNonDecreasing}
use Rattle.std.proofs.lemmas.Bool.{ltb-true, ltb-false, cases_lt, and_parts, and_from, or_left, or_right}
use Rattle.std.proofs.lemmas.Option.{slice_get_past, same_Some}
use Rattle.flow_prefix.specs.declared.prefix.Prefix.{Prefix}
use Rattle.flow_prefix.specs.Prefixes.{contains}
use Rattle.ipfix_element.specs.Element.{Element}
use Rattle.ipfix_template.specs.declared.field.FieldSpec.{FieldSpec}
use Rattle.ipfix_template.specs.DataRecord.{DataRecord}
use Rattle.policy_text.specs.declared.rule.Rule.{Rule}
use Rattle.policy_judge.specs.Occurrences.{sources, destinations}
use Rattle.policy_judge.specs.Match.{is_met, denies, are_inside, covers, is_same_element}
use Rattle.rule_table.specs.Candidates.{Judged, AreCandidates, touches, has_element, may_match, is_at, passes}

-- ---- the first place at which a rule passes

pub at_first : (test : Rule → Bool) (rules : List Rule) (k : ℕ) → position_or_len test rules ≡ k → k < length rules → passes test rules k ≡ true
at_first test [] k e l = absurd (omega arith)
at_first test (x ∷ xs) zero e l =
    elim (test x) as (λ b. cond (not b) (1 + position_or_len test xs) 0 ≡ 0 → b ≡ true)
    [ true ↦ λ e. refl | false ↦ λ (e : 1 + position_or_len test xs ≡ 0). absurd (omega arith) ] e
at_first test (x ∷ xs) (suc k) e l =
    elim (test x) as (λ b. cond (not b) (1 + position_or_len test xs) 0 ≡ suc k → passes test xs k ≡ true) [
      | true ↦ λ (e : 0 ≡ suc k). absurd (omega arith)
      | false ↦ λ (e : 1 + position_or_len test xs ≡ suc k). at_first test xs k (omega arith) (omega arith)
    ] e

pub before_first : (test : Rule → Bool) (rules : List Rule) (k : ℕ) → k < position_or_len test rules → passes test rules k ≡ false
before_first test [] k l = refl
before_first test (x ∷ xs) zero l =
    elim (test x) as (λ b. 0 < cond (not b) (1 + position_or_len test xs) 0 → b ≡ false)
    [ true ↦ λ (l : 0 < 0). absurd (omega arith) | false ↦ λ l. refl ] l
before_first test (x ∷ xs) (suc k) l =
    elim (test x) as (λ b. suc k < cond (not b) (1 + position_or_len test xs) 0 → passes test xs k ≡ false) [
      | true ↦ λ (l : suc k < 0). absurd (omega arith)
      | false ↦ λ (l : suc k < 1 + position_or_len test xs). before_first test xs k (omega arith)
    ] l

none_at : (test : Rule → Bool) (rules : List Rule) → length rules ≤ position_or_len test rules → (k : ℕ) → (k < length rules) ⊎ (length rules ≤ k) → passes test rules k ≡ false
none_at test rules past k (inl l) = before_first test rules k (omega arith)
none_at test rules past k (inr l) = ap (is_at test) (slice_get_past rules k l)

-- ---- the first place of an ascending list at which a test passes

others : (x : ℕ) (xs : List ℕ) (n k : ℕ) → k < suc (length xs) → get_or (x ∷ xs) k n ≡ n → (x ≡ n → ⊥) → Contains xs n
others x xs n zero l at other = absurd (other at)
others x xs n (suc k) l at other = (k, omega arith, at)

reached : (test : ℕ → Bool) (x n : ℕ) → test x ≡ true → x ≤ n → ((k : ℕ) → k < n → test k ≡ false) → (x < n) ⊎ (n ≤ x) → x ≡ n
reached test x n t le before (inl l) = let f = before x l in absurd (cc)
reached test x n t le before (inr l) = omega arith

pub find_least : (test : ℕ → Bool) (places : List ℕ) (n : ℕ) → IsNonDecreasing places → Contains places n → test n ≡ true → ((k : ℕ) → k < n → test k ≡ false) → find test places ≡ Some n
find_least test [] n up (j, l, at) is before = absurd (omega arith)
find_least test (x ∷ xs) n up (j, l, at) is before =
    elim (test x) as (λ b. test x ≡ b → cond b (Some x) (find test xs) ≡ Some n) [
      | true ↦ λ t.
          let first : x ≤ get_or (x ∷ xs) j n = up 0 j n (omega arith) l in
          let least : x ≤ n = omega (arith, first, at) in
          ap Some (reached test x n t least before (cases_lt x n))
      | false ↦ λ t.
          let other : x ≡ n → ⊥ = λ e. let same : test x ≡ test n = ap test e in absurd (cc) in
          find_least test xs n (λ i k d h m. up (suc i) (suc k) d (omega arith) (omega arith)) (others x xs n j l at other) is before
    ] refl

pub find_none : (test : ℕ → Bool) (places : List ℕ) → ((k : ℕ) → test k ≡ false) → find test places ≡ None
find_none test [] none = refl
find_none test (x ∷ xs) none = rw (none x) (find_none test xs none)

-- ---- a test that only rules pass which may match

weaker : (test may : Rule → Bool) → ((rule : Rule) → test rule ≡ true → may rule ≡ true) → (o : Option Rule) → is_at test o ≡ true → is_at may o ≡ true
weaker test may only None e = e
weaker test may only (Some rule) e = only rule e

pub first_candidate : (judged : Judged) (places : List ℕ) (test : Rule → Bool) → AreCandidates judged places
    → ((rule : Rule) → test rule ≡ true → may_match judged.name judged.domain judged.flow_record rule ≡ true)
    → find (passes test judged.rules) places ≡ position test judged.rules
first_candidate judged places test are only =
    let n = position_or_len test judged.rules in
    elim (nat_lt n (length judged.rules)) as (λ b. nat_lt n (length judged.rules) ≡ b → find (passes test judged.rules) places ≡ cond b (Some n) None) [
      | true ↦ λ t.
          let within : n < length judged.rules = ltb-true _ _ t in
          let is = at_first test judged.rules n refl within in
          let there = are.all n (weaker test (may_match judged.name judged.domain judged.flow_record) only (slice_get judged.rules n) is) in
          find_least (passes test judged.rules) places n are.ascending there is (λ k l. before_first test judged.rules k l)
      | false ↦ λ t. find_none (passes test judged.rules) places (λ k. none_at test judged.rules (ltb-false _ _ t) k (cases_lt k (length judged.rules)))
    ] refl

-- ---- a rule that matches may match

some_inside : (denies : Bool) (occurrences : List (List ℕ)) (prefix : Prefix) → are_inside denies occurrences prefix ≡ true → list_any (contains prefix) occurrences ≡ true
some_inside true occurrences prefix e = e
some_inside false [] prefix e = absurd (cc)
some_inside false (x ∷ xs) prefix e =
    let each = (and_parts (nat_lt 0 (length (x ∷ xs))) (list_all (contains prefix) (x ∷ xs)) e).1 in
    or_left (contains prefix x) (list_any (contains prefix) xs) (and_parts (contains prefix x) (list_all (contains prefix) xs) each).0

met : (denies : Bool) (occurrences : List (List ℕ)) (condition : Option Prefix) → is_met (are_inside denies occurrences) condition ≡ true → is_met (λ prefix. list_any (contains prefix) occurrences) condition ≡ true
met denies occurrences None e = refl
met denies occurrences (Some prefix) e = some_inside denies occurrences prefix e

pub covered : (r : DataRecord) (rule : Rule) → covers r rule ≡ true → touches r rule ≡ true
covered r rule e =
    let both = and_parts (is_met (are_inside (denies rule.action) (sources r)) rule.from) (is_met (are_inside (denies rule.action) (destinations r)) rule.to) e in
    and_from _ _ (met (denies rule.action) (sources r) rule.from both.0) (met (denies rule.action) (destinations r) rule.to both.1)

-- the element of a field is one that some field has
pub has_at : (fields : List FieldSpec) (k : ℕ) (e f : Element) → option_map (λ (field : FieldSpec). field.element) (slice_get fields k) ≡ Some e → is_same_element e f ≡ true → has_element fields f ≡ true
has_at [] k e f at is = absurd (cc)
has_at (x ∷ xs) zero e f at is =
    let same : x.element ≡ e = same_Some x.element e at in
    or_left (is_same_element x.element f) (has_element xs f) (ap (λ g. is_same_element g f) same ∙ is)
has_at (x ∷ xs) (suc k) e f at is = or_right (is_same_element x.element f) (has_element xs f) (has_at xs k e f at is)
