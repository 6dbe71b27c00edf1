-- Rules that never matter.
use Rattle.std.proofs.Common.{◌≡◌, ℕ, ◌+◌, true, false, cond, ltb, eqb, List, [], ◌∷◌, ◌++◌, length, map, filter, Option, Some, None, refl, sym, ap, ◌∙◌, arith, not}
use Rattle.std.specs.Prelude.{option_map}
use Rattle.std.specs.List.{zip, enumerate_from, AllZip}
use Rattle.ipfix_template.specs.declared.field.FieldSpec.{FieldSpec}
use Rattle.ipfix_template.specs.Template.{shortest_record}
use Rattle.ipfix_template.specs.DataRecord.{DataRecord}
use Rattle.policy_judge.specs.declared.verdict.RecordAction.{RecordAction}
use Rattle.policy_judge.specs.declared.verdict.RecordAction.TheVariants.{Pass, Withhold, Aggregate}
use Rattle.policy_judge.specs.declared.verdict.ElementVerdict.{ElementVerdict}
use Rattle.policy_judge.specs.Match.{element_at, matches_record, matches_field}
use Rattle.policy_judge.specs.Verdicts.{record_verdict_by, element_verdict_by, record_verdict_of, element_verdict_of}
use Rattle.policy_judge.specs.Laws.{concerning}
use Rattle.policy_judge.proofs.NeverLaws.{acts_alone}
use Rattle.disclosure_audit.specs.declared.entry.RemovedField.{RemovedField}
use Rattle.flow_anonymize.proofs.Sound.{removed_from}
use Rattle.disclosure_audit.specs.declared.reason.Reason.TheVariants as because
use Rattle.flow_anonymize.specs.declared.disclosure.Disclosure.TheVariants.{Passed, Withheld}
use Rattle.flow_anonymize.specs.Outcome.{Outcome}
use Rattle.flow_anonymize.specs.Remaining.{verdicts_of, keeps, is_kept, shown_value, kept_fields, kept_values, removed_fields}
use Rattle.flow_anonymize.specs.Disclosed.{remaining_template, remaining, first_lost, first_rule_of, unless_lost, transformed, by_action}
use Rattle.flow_anonymize.specs.OtherRules.{unnumbered_field, unnumbered, OthersNeverMatter, LaterNeverMatter}
use Rattle.flow_anonymize.proofs.Places.{range_alike, range_zip, find_front}

-- ---- verdicts that do the same

-- they do the same, by other rules at most
abbrev ActAlike : ElementVerdict → ElementVerdict → Type 0
ActAlike a b = a.action ≡ b.action

fields_acted : (fs : List FieldSpec) (ws us : List ElementVerdict) → AllZip ActAlike ws us → kept_fields fs ws ≡ kept_fields fs us
fields_acted [] ws us same = refl
fields_acted (f ∷ fs) [] [] same = refl
fields_acted (f ∷ fs) [] (u ∷ us) same = absurd same
fields_acted (f ∷ fs) (w ∷ ws) [] same = absurd same
fields_acted (f ∷ fs) (w ∷ ws) (u ∷ us) same =
    let rest = fields_acted fs ws us same.1 in
    let first = λ (p : FieldSpec × ElementVerdict). p.0 in
    let some_ws = filter (λ (p : FieldSpec × ElementVerdict). is_kept p.1) (zip fs ws) in
    let some_us = filter (λ (p : FieldSpec × ElementVerdict). is_kept p.1) (zip fs us) in
    ap (λ a. map first (cond (keeps a) ((f, w) ∷ some_ws) some_ws)) same.0
    ∙ elim (keeps u.action) as (λ b. map first (cond b ((f, w) ∷ some_ws) some_ws) ≡ map first (cond b ((f, u) ∷ some_us) some_us)) [ true ↦ ap (λ gs. f ∷ gs) rest | false ↦ rest ]

values_acted : (vs : List (List ℕ)) (ws us : List ElementVerdict) → AllZip ActAlike ws us → kept_values vs ws ≡ kept_values vs us
values_acted [] ws us same = refl
values_acted (v ∷ vs) [] [] same = refl
values_acted (v ∷ vs) [] (u ∷ us) same = absurd same
values_acted (v ∷ vs) (w ∷ ws) [] same = absurd same
values_acted (v ∷ vs) (w ∷ ws) (u ∷ us) same =
    let rest = values_acted vs ws us same.1 in
    let shown = λ (p : List ℕ × ElementVerdict). shown_value p.1.action p.0 in
    let some_ws = filter (λ (p : List ℕ × ElementVerdict). is_kept p.1) (zip vs ws) in
    let some_us = filter (λ (p : List ℕ × ElementVerdict). is_kept p.1) (zip vs us) in
    ap (λ a. map shown (cond (keeps a) ((v, w) ∷ some_ws) some_ws)) same.0
    ∙ elim (keeps u.action) as (λ b. map shown (cond b ((v, w) ∷ some_ws) some_ws) ≡ map shown (cond b ((v, u) ∷ some_us) some_us))
    [ true ↦ ap (λ a. shown_value a v ∷ kept_values vs ws) same.0 ∙ ap (λ xs. shown_value u.action v ∷ xs) rest | false ↦ rest ]

removed_acted : (n : ℕ) (ws us : List ElementVerdict) → AllZip ActAlike ws us → map unnumbered_field (removed_from n ws) ≡ map unnumbered_field (removed_from n us)
unfolding removed_from
removed_acted n [] [] same = refl
removed_acted n [] (u ∷ us) same = absurd same
removed_acted n (w ∷ ws) [] same = absurd same
removed_acted n (w ∷ ws) (u ∷ us) same =
    let rest = removed_acted (n + 1) ws us same.1 in
    let as_removed = λ (p : ℕ × ElementVerdict). let field : RemovedField = record { place = p.0; rule = p.1.rule } in field in
    let some_ws = filter (λ (p : ℕ × ElementVerdict). not (is_kept p.1)) (enumerate_from (n + 1) ws) in
    let some_us = filter (λ (p : ℕ × ElementVerdict). not (is_kept p.1)) (enumerate_from (n + 1) us) in
    ap (λ a. map unnumbered_field (map as_removed (cond (not (keeps a)) ((n, w) ∷ some_ws) some_ws))) same.0
    ∙ elim (keeps u.action) as (λ b. map unnumbered_field (map as_removed (cond (not b) ((n, w) ∷ some_ws) some_ws)) ≡ map unnumbered_field (map as_removed (cond (not b) ((n, u) ∷ some_us) some_us)))
    [ true ↦ rest | false ↦ ap (λ xs. record { place = n; rule = 0 } ∷ xs) rest ]

lost_unnumbered : (scope : ℕ) (removed : List RemovedField) → option_map unnumbered_field (first_lost scope removed) ≡ first_lost scope (map unnumbered_field removed)
lost_unnumbered scope [] = refl
lost_unnumbered scope (x ∷ xs) =
    elim (ltb x.place scope) as (λ b. option_map unnumbered_field (cond b (Some x) (first_lost scope xs)) ≡ cond b (Some (unnumbered_field x)) (first_lost scope (map unnumbered_field xs)))
    [ true ↦ refl | false ↦ lost_unnumbered scope xs ]

-- ---- outcomes that differ in numbers at most

lost_acted : (o p : Option RemovedField) (left : DataRecord) (xs ys : List RemovedField) → option_map unnumbered_field o ≡ option_map unnumbered_field p
    → map unnumbered_field xs ≡ map unnumbered_field ys → unnumbered (unless_lost o left xs) ≡ unnumbered (unless_lost p left ys)
lost_acted (Some x) (Some y) left xs ys lost same = refl
lost_acted (Some x) None left xs ys lost same = absurd cc
lost_acted None (Some y) left xs ys lost same = absurd cc
lost_acted None None left xs ys lost same =
    elim (eqb (shortest_record left.template) 0) as (λ b. unnumbered (cond b (Withheld (first_rule_of xs) because.Empty) (Passed left xs)) ≡ unnumbered (cond b (Withheld (first_rule_of ys) because.Empty) (Passed left ys)))
    [ true ↦ refl | false ↦ ap (Passed left) same ]

transformed_acted : (r : DataRecord) (ws us : List ElementVerdict) → AllZip ActAlike ws us → unnumbered (transformed r ws) ≡ unnumbered (transformed r us)
unfolding removed_from
transformed_acted r ws us same =
    let removed : map unnumbered_field (removed_fields ws) ≡ map unnumbered_field (removed_fields us) = removed_acted 0 ws us same in
    let lost = lost_unnumbered r.template.scope (removed_fields ws) ∙ ap (first_lost r.template.scope) removed ∙ sym (lost_unnumbered r.template.scope (removed_fields us)) in
    let fields = fields_acted r.template.fields ws us same in
    let values = values_acted r.values ws us same in
    let left : remaining r ws ≡ remaining r us =
    ap (λ (fs : List FieldSpec). record { template = record { fields = fs; scope = r.template.scope }; values = kept_values r.values ws }) fields
    ∙ ap (λ (vs : List (List ℕ)). record { template = remaining_template r.template us; values = vs }) values in
    lost_acted (first_lost r.template.scope (removed_fields ws)) (first_lost r.template.scope (removed_fields us)) (remaining r ws) (removed_fields ws) (removed_fields us) lost removed
    ∙ ap (λ (x : DataRecord). unnumbered (unless_lost (first_lost r.template.scope (removed_fields us)) x (removed_fields us))) left

action_acted : (a : RecordAction) (n m : ℕ) (x y : Outcome) → unnumbered x ≡ unnumbered y → unnumbered (by_action a n x) ≡ unnumbered (by_action a m y)
action_acted Pass n m x y same = same
action_acted Withhold n m x y same = refl
action_acted (Aggregate definition) n m x y same = refl

pub others_never_matter : OthersNeverMatter
others_never_matter name domain r rules =
    let on_record = acts_alone.on_record name domain r rules in
    let on_fields = range_zip ActAlike (λ place. element_verdict_of name domain r place (concerning name rules)) (λ place. element_verdict_of name domain r place rules) 0 (length r.template.fields)
    (λ place. acts_alone.on_field name domain r place rules) in
    let passing = transformed_acted r (verdicts_of name domain r (concerning name rules)) (verdicts_of name domain r rules) on_fields in
    ap (λ a. unnumbered (by_action a (record_verdict_of name domain r (concerning name rules)).rule (transformed r (verdicts_of name domain r (concerning name rules))))) on_record
    ∙ action_acted (record_verdict_of name domain r rules).action _ _ _ _ passing

-- ---- rules behind those that decide

pub later_never_matter : LaterNeverMatter
later_never_matter name domain r front back decide =
    let verdict = record_verdict_of name domain r front in
    let on_record : record_verdict_of name domain r (front ++ back) ≡ verdict = ap record_verdict_by (find_front (matches_record name domain r) 1 front back decide.on_record) in
    ap (λ v. by_action v.action v.rule (transformed r (verdicts_of name domain r (front ++ back)))) on_record
    ∙ elim verdict.action as (λ a. verdict.action ≡ a → by_action a verdict.rule (transformed r (verdicts_of name domain r (front ++ back))) ≡ by_action a verdict.rule (transformed r (verdicts_of name domain r front))) [
      | Pass ↦ λ passes.
          ap (transformed r) (range_alike (λ place. element_verdict_of name domain r place (front ++ back)) (λ place. element_verdict_of name domain r place front) 0 (length r.template.fields)
          (λ place low high. ap element_verdict_by (find_front (matches_field name domain r (element_at r place)) 1 front back (decide.on_fields passes place (omega (arith, high))))))
      | Withhold ↦ λ _. refl
      | Aggregate definition ↦ λ _. refl
    ] refl
