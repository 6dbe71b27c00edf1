-- The first rule on a field is the earlier of the first on any element and the first on this one.
use Rattle.std.proofs.Common.{◌≡◌, ℕ, ◌+◌, ◌<◌, Bool, true, false, List, [], ◌∷◌, length, Option, Some, None, cond, not, is_none, refl, ap, sym, ◌∙◌, arith, nat_lt, ◌&&◌, ◌||◌, ◌==◌, min}
use Rattle.std.specs.List.{position, position_or_len}
use Rattle.std.proofs.lemmas.Bool.{ltb-true, ltb-false, and_from}
use Rattle.ipfix_element.specs.Element.{Element}
use Rattle.ipfix_template.specs.Equality.{same_pen}
use Rattle.ipfix_template.specs.DataRecord.{DataRecord}
use Rattle.policy_text.specs.declared.rule.Rule.{Rule}
use Rattle.policy_judge.specs.Match.{is_met, is_on_records, is_element, is_same_element, element_at, matches_field}
use Rattle.rule_table.specs.Candidates.{Judged, applies, has_element}
use Rattle.rule_table.specs.Firsts.{AreFirsts, on_any, is_on_element, is_named, earlier, element_key}
use Rattle.rule_table.proofs.FirstLaws.{has_at}

-- ---- the first that passes one of two tests

min_step : (a b test : Bool) (x y n : ℕ) → test ≡ (a || b) → n ≡ min x y → cond (not test) (1 + n) 0 ≡ min (cond (not a) (1 + x) 0) (cond (not b) (1 + y) 0)
min_step true true test x y n e same = rw e (omega arith)
min_step true false test x y n e same = rw e (omega arith)
min_step false true test x y n e same = rw e (omega arith)
min_step false false test x y n e same = rw e (omega arith)

place_min : (test a b : Rule → Bool) → ((rule : Rule) → test rule ≡ (a rule || b rule)) → (rules : List Rule) → position_or_len test rules ≡ min (position_or_len a rules) (position_or_len b rules)
place_min test a b each [] = refl
place_min test a b each (x ∷ xs) = min_step (a x) (b x) (test x) (position_or_len a xs) (position_or_len b xs) (position_or_len test xs) (each x) (place_min test a b each xs)

abbrev placed : ℕ → ℕ → Option ℕ
placed l n = cond (nat_lt n l) (Some n) None

earlier_by : (l x y : ℕ) (bx by' bn : Bool) → nat_lt x l ≡ bx → nat_lt y l ≡ by' → nat_lt (min x y) l ≡ bn → cond bn (Some (min x y)) None ≡ earlier (cond bx (Some x) None) (cond by' (Some y) None)
earlier_by l x y true true true ex ey en = refl
earlier_by l x y true true false ex ey en = absurd (omega (arith, ltb-true x l ex, ltb-true y l ey, ltb-false (min x y) l en))
earlier_by l x y true false true ex ey en = let n : min x y ≡ x = omega (arith, ltb-true x l ex, ltb-false y l ey) in ap Some n
earlier_by l x y true false false ex ey en = absurd (omega (arith, ltb-true x l ex, ltb-false (min x y) l en))
earlier_by l x y false true true ex ey en = let n : min x y ≡ y = omega (arith, ltb-false x l ex, ltb-true y l ey) in ap Some n
earlier_by l x y false true false ex ey en = absurd (omega (arith, ltb-true y l ey, ltb-false (min x y) l en))
earlier_by l x y false false true ex ey en = absurd (omega (arith, ltb-false x l ex, ltb-false y l ey, ltb-true (min x y) l en))
earlier_by l x y false false false ex ey en = refl

either : (test a b : Rule → Bool) → ((rule : Rule) → test rule ≡ (a rule || b rule)) → (rules : List Rule) → position test rules ≡ earlier (position a rules) (position b rules)
either test a b each rules =
    let l = length rules in
    let x = position_or_len a rules in
    let y = position_or_len b rules in
    ap (placed l) (place_min test a b each rules) ∙ earlier_by l x y (nat_lt x l) (nat_lt y l) (nat_lt (min x y) l) refl refl refl

-- ---- on fields of any element, or of this one

by_kind : (e : Element) (on for : Bool) (o : Option Element) → (not on && (is_met (is_element (Some e)) o && for)) ≡ ((not on && is_none o) && for || (not on && is_named e o) && for)
by_kind e true for o = refl
by_kind e false true None = refl
by_kind e false false None = refl
by_kind e false for (Some f) = refl

pub first_on_field : (name : List ℕ) (domain : ℕ) (r : DataRecord) (e : Element) (rules : List Rule)
    → position (matches_field name domain r (Some e)) rules ≡ earlier (position (λ rule. on_any rule && applies name domain r rule) rules) (position (λ rule. is_on_element e rule && applies name domain r rule) rules)
first_on_field name domain r e rules =
    either (matches_field name domain r (Some e)) (λ rule. on_any rule && applies name domain r rule) (λ rule. is_on_element e rule && applies name domain r rule)
    (λ rule. by_kind e (is_on_records rule.action) (applies name domain r rule) rule.element) rules

-- ---- an element is the same as itself

eq_itself : (n : ℕ) → (n == n) ≡ true
eq_itself n = grind arith

pen_itself : (pen : Option ℕ) → same_pen pen pen ≡ true
pen_itself None = refl
pen_itself (Some pen) = eq_itself pen

same_itself : (e : Element) → is_same_element e e ≡ true
same_itself e = and_from _ _ (pen_itself e.pen) (eq_itself e.number)

-- ---- the first on a field, by what is kept

pub element_first : (judged : Judged) (records any : Option ℕ) (named : ℕ → Option ℕ) (field : ℕ) (e : Element) (noted first : Option ℕ) → AreFirsts judged records any named
    → e.number < 32768 → element_at judged.flow_record field ≡ Some e → noted ≡ named (element_key e) → first ≡ earlier any noted
    → first ≡ position (matches_field judged.name judged.domain judged.flow_record (element_at judged.flow_record field)) judged.rules
element_first judged records any named field e noted first are below at is made =
    let has : has_element judged.flow_record.template.fields e ≡ true = has_at judged.flow_record.template.fields field e e at (same_itself e) in
    let one = is ∙ are.of_element e below has in
    made ∙ ap (earlier any) one ∙ ap (λ o. earlier o (position (λ rule. is_on_element e rule && applies judged.name judged.domain judged.flow_record rule) judged.rules)) are.of_any
    ∙ sym (first_on_field judged.name judged.domain judged.flow_record e judged.rules)
    ∙ ap (λ o. position (matches_field judged.name judged.domain judged.flow_record o) judged.rules) (sym at)
