-- Of the places of rules that may match those are kept at which a rule applies.
use Rattle.std.proofs.Common.{◌≡◌, ℕ, ◌+◌, ◌<◌, length, get_or, take, Bool, true, false, List, [], ◌∷◌, Option, Some, None, cond, not, is_none, refl, ap, sym, ◌∙◌, subst, filter, ◌&&◌}
use Rattle.std.specs.Prelude.{slice_get}
use Rattle.std.specs.List.{find}
use Rattle.std.specs.Option.{option_or}
use Rattle.std.proofs.lemmas.Bool.{and_parts, and_from}
use Rattle.std.proofs.lemmas.List.{take_more}
use Rattle.std.proofs.lemmas.List.Folds.{find-append}
use Rattle.ipfix_element.specs.Element.{Element}
use Rattle.ipfix_template.specs.declared.field.FieldSpec.{FieldSpec}
use Rattle.ipfix_template.specs.DataRecord.{DataRecord}
use Rattle.policy_text.specs.declared.rule.Rule.{Rule}
use Rattle.policy_judge.specs.Match.{is_met, is_for, covers, is_on_records}
use Rattle.rule_table.specs.Candidates.{Judged, AreCandidates, AreApplying, IsOfRecord, applies_in, has_element, may_match, is_at, passes}
use Rattle.rule_table.specs.Firsts.{AreFirsts, on_records, on_any, is_on_element, is_named, element_key}
use Rattle.rule_table.proofs.AskedLaws.{element_is}
use Rattle.rule_table.proofs.FirstLaws.{covered, first_candidate}

-- ---- the first that is kept

first_step : (test : ℕ → Bool) (x : ℕ) (rest : List ℕ) (o : Option ℕ) (is kept : Bool) → test x ≡ is → find test rest ≡ o
    → find test (cond kept (x ∷ rest) rest) ≡ cond (is && kept) (Some x) o
first_step test x rest o true true e same = rw e refl
first_step test x rest o false true e same = rw e same
first_step test x rest o true false e same = same
first_step test x rest o false false e same = same

first_kept : (test kept both : ℕ → Bool) → ((x : ℕ) → both x ≡ (test x && kept x)) → (xs : List ℕ) → find test (filter kept xs) ≡ find both xs
first_kept test kept both each [] = refl
first_kept test kept both each (x ∷ xs) =
    let o = find both xs in
    first_step test x (filter kept xs) o (test x) (kept x) refl (first_kept test kept both each xs) ∙ ap (λ b. cond b (Some x) o) (sym (each x))

both_at : (kind test : Rule → Bool) (o : Option Rule) → is_at (λ rule. kind rule && test rule) o ≡ (is_at kind o && is_at test o)
both_at kind test None = refl
both_at kind test (Some rule) = refl

may : (judged : Judged) (kind : Rule → Bool) (rule : Rule) → IsOfRecord judged.flow_record kind → (kind rule && applies_in judged rule) ≡ true
    → may_match judged.name judged.domain judged.flow_record rule ≡ true
may judged kind rule of e =
    let r = judged.flow_record in
    let parts = and_parts (kind rule) (applies_in judged rule) e in
    let both = and_parts (is_for judged.name judged.domain rule) (covers r rule) parts.1 in
    and_from _ _ both.0 (and_from _ _ (covered r rule both.1) (of rule parts.0))

pub applying : (judged : Judged) (places kept : List ℕ) → AreCandidates judged places → kept ≡ filter (passes (applies_in judged) judged.rules) places → AreApplying judged kept
applying judged places kept are same = rw same (record {
  few = are.few;
  first = λ kind of.
      first_kept (passes kind judged.rules) (passes (applies_in judged) judged.rules) (passes (λ rule. kind rule && applies_in judged rule) judged.rules)
      (λ x. both_at kind (applies_in judged) (slice_get judged.rules x)) places
      ∙ first_candidate judged places (λ rule. kind rule && applies_in judged rule) are (λ rule e. may judged kind rule of e);
})

-- ---- the kinds of rules

of_records : (r : DataRecord) → IsOfRecord r on_records
of_records r rule e = ap (λ b. is_met (has_element r.template.fields) (cond b None rule.element)) e

any_met : (has : Element → Bool) (on : Bool) (o : Option Element) → (not on && is_none o) ≡ true → is_met has (cond on None o) ≡ true
any_met has true o e = absurd (cc)
any_met has false None e = refl
any_met has false (Some f) e = absurd (cc)

of_any : (r : DataRecord) → IsOfRecord r on_any
of_any r rule e = any_met (has_element r.template.fields) (is_on_records rule.action) rule.element e

named_met : (fields : List FieldSpec) (e : Element) (on : Bool) (o : Option Element) → has_element fields e ≡ true → (not on && is_named e o) ≡ true → is_met (has_element fields) (cond on None o) ≡ true
named_met fields e true o has is = absurd (cc)
named_met fields e false None has is = absurd (cc)
named_met fields e false (Some f) has is = let P : Element → Type 0 = λ g. has_element fields g ≡ true in subst P (element_is e f is) has

of_element : (r : DataRecord) (e : Element) → has_element r.template.fields e ≡ true → IsOfRecord r (is_on_element e)
of_element r e has rule is = named_met r.template.fields e (is_on_records rule.action) rule.element has is

pub firsts : (judged : Judged) (places : List ℕ) (records any : Option ℕ) (named : ℕ → Option ℕ) → AreApplying judged places
    → records ≡ find (passes on_records judged.rules) places → any ≡ find (passes on_any judged.rules) places
    → ((e : Element) → e.number < 32768 → named (element_key e) ≡ find (passes (is_on_element e) judged.rules) places)
    → AreFirsts judged records any named
firsts judged places records any named are of_r of_a of_e = record {
  few = are.few;
  of_records = of_r ∙ are.first on_records (of_records judged.flow_record);
  of_any = of_a ∙ are.first on_any (of_any judged.flow_record);
  of_element = λ e below has. of_e e below ∙ are.first (is_on_element e) (of_element judged.flow_record e has);
}

-- ---- a loop's next place

pub find_next : (test : ℕ → Bool) (places : List ℕ) (i : ℕ) (old new : Option ℕ) → i < length places → old ≡ find test (take i places)
    → new ≡ option_or old (cond (test (get_or places i 0)) (Some (get_or places i 0)) None) → new ≡ find test (take (i + 1) places)
find_next test places i old new l so_far is =
    let more = take_more places i 0 l in
    is ∙ ap (λ o. option_or o (cond (test (get_or places i 0)) (Some (get_or places i 0)) None)) so_far
    ∙ sym (find-append test (take i places) (get_or places i 0 ∷ [])) ∙ ap (find test) (sym more)
