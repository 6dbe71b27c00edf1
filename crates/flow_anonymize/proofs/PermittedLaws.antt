-- What passes is what the rules permit.
use Rattle.std.proofs.Common.{◌≡◌, ℕ, zero, suc, ◌+◌, ◌*◌, ◌-◌, ◌^◌, ◌/◌, Bool, true, false, cond, ltb, eqb, List, [], ◌∷◌, length, map, filter, take, Option, Some, None, refl, sym, ap, ◌∙◌, arith, not}
use Rattle.std.proofs.Math.Nat.{mul-mod_left}
use Rattle.std.proofs.lemmas.Bool.{ltb-false}
use Rattle.std.specs.Prelude.{slice_get, option_map, ◌==◌}
use Rattle.std.specs.List.{zip, find, enumerate_from, AllByRecursion}
use Rattle.sequences.specs.Octets.{be_value, AreOctets}
use Rattle.flow_prefix.proofs.BitLaws.{KeepsBits-kept_octets}
use Rattle.ipfix_template.specs.declared.field.FieldSpec.{FieldSpec}
use Rattle.ipfix_template.specs.Template.{shortest_record}
use Rattle.ipfix_template.specs.DataRecord.{DataRecord}
use Rattle.policy_text.specs.declared.rule.Rule.{Rule}
use Rattle.policy_judge.specs.declared.verdict.RecordAction.{RecordAction}
use Rattle.policy_judge.specs.declared.verdict.RecordAction.TheVariants.{Pass, Withhold, Aggregate}
use Rattle.policy_judge.specs.declared.verdict.ElementAction.{ElementAction}
use Rattle.policy_judge.specs.declared.verdict.ElementAction.TheVariants.{Keep, Remove, Truncate, Degrade}
use Rattle.policy_judge.specs.declared.verdict.ElementVerdict.{ElementVerdict}
use Rattle.policy_judge.specs.Match.{matches_field}
use Rattle.policy_judge.specs.Verdicts.{first_rule, element_verdict_by, record_verdict_of, element_verdict_of}
use Rattle.disclosure_audit.specs.declared.entry.RemovedField.{RemovedField}
use Rattle.std.proofs.lemmas.List.{length-map}
use Rattle.disclosure_audit.specs.declared.reason.Reason.TheVariants as because
use Rattle.flow_anonymize.specs.declared.disclosure.Disclosure.TheVariants as disclosed
use Rattle.flow_anonymize.specs.Remaining.{verdicts_of, keeps, is_kept, shown_value, kept_fields, kept_values, removed_fields}
use Rattle.flow_anonymize.specs.Disclosed.{remaining, first_lost, first_rule_of, unless_lost, by_action}
use Rattle.flow_anonymize.specs.Times.{step_of_time}
use Rattle.flow_anonymize.specs.Permitted.{verdict_on, IsPermitted, OnlyPermittedPasses, PassedIsSound}
use Rattle.flow_anonymize.proofs.TimeLaws.{degraded_long, degraded_value}
use Rattle.flow_anonymize.proofs.Sound.{left_is_sound}
use Rattle.std.proofs.lemmas.List.FromFn.{length-map-range_with_len}
use Rattle.flow_anonymize.proofs.Places.{range_items}

-- ---- one value

permitted_shown : (a : ElementAction) (v : List ℕ) → AreOctets v → keeps a ≡ true → IsPermitted a (shown_value a v)
permitted_shown Keep v octets stays = tt
permitted_shown Remove v octets stays = absurd cc
permitted_shown (Truncate bits) v octets stays =
    let kept = KeepsBits-kept_octets bits v octets in
    rw (kept.wide, kept.value) (mul-mod_left (be_value v / 2 ^ (8 * length v - bits)) (2 ^ (8 * length v - bits)))
permitted_shown (Degrade seconds) v octets stays =
    rw (degraded_long seconds v, degraded_value seconds v octets) (mul-mod_left (be_value v / step_of_time (length v) seconds) (step_of_time (length v) seconds))

-- ---- the lists, where the verdicts are those on the fields

fields_kept : (on : FieldSpec → ElementVerdict) (fs : List FieldSpec) → kept_fields fs (map on fs) ≡ filter (λ f. is_kept (on f)) fs
fields_kept on [] = refl
fields_kept on (f ∷ fs) =
    elim (is_kept (on f)) as (λ b. map (λ (p : FieldSpec × ElementVerdict). p.0) (cond b ((f, on f) ∷ filter (λ p. is_kept p.1) (zip fs (map on fs))) (filter (λ p. is_kept p.1) (zip fs (map on fs))))
    ≡ cond b (f ∷ filter (λ g. is_kept (on g)) fs) (filter (λ g. is_kept (on g)) fs))
    [ true ↦ ap (λ gs. f ∷ gs) (fields_kept on fs) | false ↦ fields_kept on fs ]

abbrev as_removed : ℕ × ElementVerdict → RemovedField
as_removed p = record { place = p.0; rule = p.1.rule }

abbrev removed_on : (FieldSpec → ElementVerdict) → ℕ × FieldSpec → RemovedField
removed_on on p = record { place = p.0; rule = (on p.1).rule }

fields_removed : (on : FieldSpec → ElementVerdict) (n : ℕ) (fs : List FieldSpec)
    → map as_removed (filter (λ p. not (is_kept p.1)) (enumerate_from n (map on fs))) ≡ map (removed_on on) (filter (λ p. not (is_kept (on p.1))) (enumerate_from n fs))
fields_removed on n [] = refl
fields_removed on n (f ∷ fs) =
    let some_ws = filter (λ (p : ℕ × ElementVerdict). not (is_kept p.1)) (enumerate_from (n + 1) (map on fs)) in
    let some_fs = filter (λ (p : ℕ × FieldSpec). not (is_kept (on p.1))) (enumerate_from (n + 1) fs) in
    elim (is_kept (on f)) as (λ b. map as_removed (cond (not b) ((n, on f) ∷ some_ws) some_ws) ≡ map (removed_on on) (cond (not b) ((n, f) ∷ some_fs) some_fs))
    [ true ↦ fields_removed on (n + 1) fs | false ↦ ap (λ xs. record { place = n; rule = (on f).rule } ∷ xs) (fields_removed on (n + 1) fs) ]

-- each value that is shown is permitted
each_permitted : (on : FieldSpec → ElementVerdict) (fs : List FieldSpec) (vs : List (List ℕ)) → AllByRecursion AreOctets vs → (place : ℕ) (field : FieldSpec) (value : List ℕ)
    → slice_get (kept_fields fs (map on fs)) place ≡ Some field → slice_get (kept_values vs (map on fs)) place ≡ Some value → IsPermitted (on field).action value
each_permitted on [] vs octets place field value here there = absurd cc
each_permitted on (f ∷ fs) [] octets place field value here there = absurd cc
each_permitted on (f ∷ fs) (v ∷ vs) octets place field value here there =
    elim (is_kept (on f)) as (λ b. is_kept (on f) ≡ b → slice_get (map first (cond b ((f, on f) ∷ some_fs) some_fs)) place ≡ Some field
    → slice_get (map shown (cond b ((v, on f) ∷ some_vs) some_vs)) place ≡ Some value → IsPermitted (on field).action value)
    [ true ↦ λ stays h t. at place stays (λ k a b. each_permitted on fs vs octets.1 k field value a b) h t | false ↦ λ _ h t. each_permitted on fs vs octets.1 place field value h t ] refl here there where
      first : FieldSpec × ElementVerdict → FieldSpec
      first p = p.0

      shown : List ℕ × ElementVerdict → List ℕ
      shown p = shown_value p.1.action p.0

      some_fs : List (FieldSpec × ElementVerdict)
      some_fs = filter (λ (p : FieldSpec × ElementVerdict). is_kept p.1) (zip fs (map on fs))

      some_vs : List (List ℕ × ElementVerdict)
      some_vs = filter (λ (p : List ℕ × ElementVerdict). is_kept p.1) (zip vs (map on fs))

      at : (place : ℕ) → is_kept (on f) ≡ true
          → ((k : ℕ) → slice_get (kept_fields fs (map on fs)) k ≡ Some field → slice_get (kept_values vs (map on fs)) k ≡ Some value → IsPermitted (on field).action value)
          → slice_get (f ∷ kept_fields fs (map on fs)) place ≡ Some field
          → slice_get (shown_value (on f).action v ∷ kept_values vs (map on fs)) place ≡ Some value → IsPermitted (on field).action value
      at zero stays others h t =
          let same : f ≡ field = cc in
          let is : shown_value (on f).action v ≡ value = cc in
          rw (← same, ← is) (permitted_shown (on f).action v octets.0 stays)
      at (suc k) stays others h t = others k h t

-- the scope fields stay
scope_kept : (scope n : ℕ) (fs : List FieldSpec) (ws : List ElementVerdict) → length ws ≡ length fs
    → first_lost scope (map as_removed (filter (λ p. not (is_kept p.1)) (enumerate_from n ws))) ≡ None → take (scope - n) (kept_fields fs ws) ≡ take (scope - n) fs
scope_kept scope n [] ws each none = refl
scope_kept scope n (f ∷ fs) [] each none = absurd (omega (arith, each))
scope_kept scope n (f ∷ fs) (w ∷ ws) each none =
    elim (is_kept w) as (λ b. find (λ (x : RemovedField). ltb x.place scope) (map as_removed (cond (not b) ((n, w) ∷ rest) rest)) ≡ None
    → take (scope - n) (map (λ (p : FieldSpec × ElementVerdict). p.0) (cond b ((f, w) ∷ some_fs) some_fs)) ≡ take (scope - n) (f ∷ fs)) [
      | true ↦ λ others. more (scope - n) refl (scope_kept scope (n + 1) fs ws (omega (arith, each)) others)
      | false ↦ λ others. lost (ltb n scope) _ others refl
    ] none where
      some_fs : List (FieldSpec × ElementVerdict)
      some_fs = filter (λ (p : FieldSpec × ElementVerdict). is_kept p.1) (zip fs ws)

      rest : List (ℕ × ElementVerdict)
      rest = filter (λ (p : ℕ × ElementVerdict). not (is_kept p.1)) (enumerate_from (n + 1) ws)

      more : (k : ℕ) → scope - n ≡ k → take (scope - (n + 1)) (kept_fields fs ws) ≡ take (scope - (n + 1)) fs → take k (f ∷ kept_fields fs ws) ≡ take k (f ∷ fs)
      more zero is others = refl
      more (suc k) is others =
          let less : scope - (n + 1) ≡ k = omega (arith, is) in
          ap (λ gs. f ∷ gs) (ap (λ j. take j (kept_fields fs ws)) (sym less) ∙ others ∙ ap (λ j. take j fs) less)

      lost : (b : Bool) (o : Option RemovedField) → cond b (Some (record { place = n; rule = w.rule })) o ≡ None → ltb n scope ≡ b
          → take (scope - n) (kept_fields fs ws) ≡ take (scope - n) (f ∷ fs)
      lost true o e is = absurd cc
      lost false o e is = let past = ltb-false n scope is in let none_left : scope - n ≡ 0 = omega (arith, past) in rw none_left refl

-- ---- what passed

pub record Passed (o : Option RemovedField) (left : DataRecord) (found : List RemovedField) (kept : DataRecord) (removed : List RemovedField) : Type 0 where
  pub none_lost : o ≡ None
  pub has_octets : (shortest_record left.template == 0) ≡ false
  pub record_is : left ≡ kept
  pub removed_is : found ≡ removed

pub passed_by : (a : RecordAction) (rule : ℕ) (o : Option RemovedField) (left : DataRecord) (found : List RemovedField) (kept : DataRecord) (removed : List RemovedField)
    → by_action a rule (unless_lost o left found) ≡ disclosed.Passed kept removed → Passed o left found kept removed
passed_by Withhold rule o left found kept removed e = absurd cc
passed_by (Aggregate definition) rule o left found kept removed e = absurd cc
passed_by Pass rule (Some field) left found kept removed e = absurd cc
passed_by Pass rule None left found kept removed e = by (eqb (shortest_record left.template) 0) refl e where
  by : (b : Bool) → eqb (shortest_record left.template) 0 ≡ b → cond b (disclosed.Withheld (first_rule_of found) because.Empty) (disclosed.Passed left found) ≡ disclosed.Passed kept removed → Passed None left found kept removed
  by true is e = absurd cc
  by false is e = record { none_lost = refl; has_octets = is; record_is = cc; removed_is = cc }

on_elements : (name : List ℕ) (domain : ℕ) (r : DataRecord) (rules : List Rule)
    → verdicts_of name domain r rules ≡ map (λ f. verdict_on name domain r rules f.element) r.template.fields
on_elements name domain r rules =
    range_items (λ place. element_verdict_of name domain r place rules) (λ (f : FieldSpec). verdict_on name domain r rules f.element) 0 r.template.fields
    (λ place f at. let there : 0 + place ≡ place = omega arith in
    ap (λ n. element_verdict_of name domain r n rules) there ∙ ap (λ (g : Option FieldSpec). element_verdict_by (first_rule (matches_field name domain r (option_map (λ f. f.element) g)) rules)) at)

pub only_permitted_passes : OnlyPermittedPasses
only_permitted_passes name domain r rules kept removed octets is =
    let on = λ (f : FieldSpec). verdict_on name domain r rules f.element in
    let ws = map on r.template.fields in
    let verdicts = on_elements name domain r rules in
    let here = rw verdicts at is in
    let passed = passed_by (record_verdict_of name domain r rules).action (record_verdict_of name domain r rules).rule (first_lost r.template.scope (removed_fields ws)) (remaining r ws) (removed_fields ws) kept removed here in
    let fields : kept_fields r.template.fields ws ≡ kept.template.fields = ap (λ (x : DataRecord). x.template.fields) passed.record_is in
    let whole : r.template.scope - 0 ≡ r.template.scope = omega arith in
    let scope_stays = rw whole at (scope_kept r.template.scope 0 r.template.fields ws (length-map r.template.fields on) passed.none_lost) in
    let values : kept_values r.values ws ≡ kept.values = ap (λ (x : DataRecord). x.values) passed.record_is in
    record {
      each = λ place field value h t. each_permitted on r.template.fields r.values octets place field value (rw fields h) (rw values t);
      fields = sym fields ∙ fields_kept on r.template.fields;
      scope = ap (λ (x : DataRecord). x.template.scope) (sym passed.record_is);
      scope_fields = ap (take r.template.scope) (sym fields) ∙ scope_stays;
      others = sym passed.removed_is ∙ fields_removed on 0 r.template.fields;
    }

pub passed_is_sound : PassedIsSound
passed_is_sound name domain r rules kept removed sound is =
    let ws = verdicts_of name domain r rules in
    let passed = passed_by (record_verdict_of name domain r rules).action (record_verdict_of name domain r rules).rule (first_lost r.template.scope (removed_fields ws)) (remaining r ws) (removed_fields ws) kept removed is in
    let each = length-map-range_with_len (λ (place : ℕ). element_verdict_of name domain r place rules) 0 (length r.template.fields) in
    let left = left_is_sound r ws sound each passed.none_lost passed.has_octets in
    rw (← passed.record_is) left
