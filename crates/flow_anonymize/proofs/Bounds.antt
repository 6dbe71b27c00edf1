-- A rule of a policy keeps no more bits than the values of its element have.
use Rattle.std.proofs.Common.{◌≡◌, ℕ, zero, suc, ◌+◌, ◌*◌, ◌<◌, ◌≤◌, Bool, true, false, cond, eqb, List, [], ◌∷◌, ◌++◌, length, map, get_or, Option, Some, None, refl, sym, ap, ◌∙◌, arith, not}
use Rattle.std.specs.Prelude.{◌&&◌, ◌==◌}
use Rattle.std.specs.List.{find, enumerate_from, range_with_len, list_all, AllByRecursion}
use Rattle.std.proofs.lemmas.Bool.{and_parts, eqb-true}
use Rattle.std.proofs.lemmas.List.FromFn.{get_or-map-range_with_len, length-map-range_with_len, map-range_with_len_more}
use Rattle.ipfix_element.specs.Element.{Element}
use Rattle.ipfix_element.specs.declared.kind.Kind.{Kind}
use Rattle.ipfix_element.specs.declared.kind.Kind.TheVariants.{U8, U16, U32, U64, Ipv4, Ipv6, Mac, Seconds, Millis, Text, Octets}
use Rattle.ipfix_element.specs.Kinds.{kind_of, is_allowed_length}
use Rattle.ipfix_template.specs.declared.field.FieldSpec.{FieldSpec}
use Rattle.ipfix_template.specs.declared.template.Template.{Template}
use Rattle.ipfix_template.specs.declared.template.Refused.TheVariants.{BadLength, BadScope, EmptyRecord}
use Rattle.ipfix_template.specs.Template.{is_variable, has_allowed_length, has_bad_scope, shortest_record, refusal_of, is_options, IsAcceptable}
use Rattle.ipfix_template.specs.Values.{fits_field}
use Rattle.ipfix_template.specs.DataRecord.{DataRecord, IsSound}
use Rattle.ipfix_template.proofs.Encoding.{fit_fields-at, fit_fields-length}
use Rattle.policy_text.specs.declared.rule.Rule.{Rule}
use Rattle.policy_text.specs.declared.rule.Action.{Action}
use Rattle.policy_text.specs.declared.rule.Action.TheVariants.{Pass, Withhold, Aggregate, Keep, Remove, Truncate, Degrade}
use Rattle.policy_text.specs.declared.version.Version.{Version}
use Rattle.policy_text.specs.Policies.{Aggregate as Definition}
use Rattle.policy_text.specs.Classes.{width_of_kind, width_at}
use Rattle.policy_text.specs.Grammar.{IsAction, IsRule, AreRules}
use Rattle.policy_judge.specs.declared.verdict.ElementVerdict.{ElementVerdict}
use Rattle.ipfix_template.specs.Equality.{same_pen}
use Rattle.policy_judge.specs.Match.{is_met, is_on_records, is_for, covers, is_same_element, is_element, matches_field}
use Rattle.policy_judge.specs.Verdicts.{element_action, element_verdict_by, element_verdict_of}
use Rattle.policy_judge.proofs.FirstRuleLaws.{element_there}
use Rattle.ipfix_element.proofs.NameLaws.{same_element}
use Rattle.ipfix_template.specs.SameTemplate.{pen_is}
use Rattle.flow_anonymize.specs.Remaining.{verdicts_of}
use Rattle.flow_anonymize.specs.Within.{FitsAction, FitActions, AreJudged}

-- the kinds whose values `truncate` may cut have one length
sized : (kind : Kind) (len width : ℕ) → width_of_kind kind ≡ Some width → is_allowed_length kind len ≡ true → (width ≡ 8 * len) × (eqb len 65535 ≡ false)
unfolding is_allowed_length
sized U8 len width e allowed = absurd cc
sized U16 len width e allowed = absurd cc
sized U32 len width e allowed = absurd cc
sized U64 len width e allowed = absurd cc
sized Ipv4 len width e allowed = let n = eqb-true len 4 allowed in let w : 32 ≡ width = cc in (omega (arith, n, w), rw n refl)
sized Ipv6 len width e allowed = let n = eqb-true len 16 allowed in let w : 128 ≡ width = cc in (omega (arith, n, w), rw n refl)
sized Mac len width e allowed = let n = eqb-true len 6 allowed in let w : 48 ≡ width = cc in (omega (arith, n, w), rw n refl)
sized Seconds len width e allowed = absurd cc
sized Millis len width e allowed = absurd cc
sized Text len width e allowed = absurd cc
sized Octets len width e allowed = absurd cc

element_is : (e f : Element) → is_same_element e f ≡ true → e ≡ f
element_is e f is =
    let parts = and_parts (same_pen e.pen f.pen) (e.number == f.number) is in
    same_element e f (pen_is e.pen f.pen parts.0) (eqb-true e.number f.number parts.1)

pub fixed_length : (f : FieldSpec) (value : List ℕ) → is_variable f ≡ false → fits_field f value ≡ true → length value ≡ f.length
fixed_length f value fixed fits = eqb-true _ _ (rw fixed at fits)

-- what an action keeps of a value of its element
one_action : (version : Version) (aggregates : List Definition) (element : Option Element) (action : Action) (f : FieldSpec) (value : List ℕ)
    → is_met (is_element (Some f.element)) element ≡ true → IsAction version aggregates element action → has_allowed_length f ≡ true → fits_field f value ≡ true
    → FitsAction value (element_action action)
unfolding width_at
one_action version aggregates element Pass f value met is allowed fits = tt
one_action version aggregates element Withhold f value met is allowed fits = tt
one_action version aggregates element (Aggregate place) f value met is allowed fits = tt
one_action version aggregates element Keep f value met is allowed fits = tt
one_action version aggregates element Remove f value met is allowed fits = tt
one_action version aggregates element (Degrade seconds) f value met is allowed fits = tt
one_action version aggregates None (Truncate bits) f value met is allowed fits = absurd cc
one_action version aggregates (Some e) (Truncate bits) f value met is allowed fits =
    let same = element_is f.element e met in
    let width : width_of_kind (kind_of f.element) ≡ Some is.0 = rw same is.1 in
    let size = sized (kind_of f.element) f.length is.0 width allowed in
    let long = fixed_length f value size.1 fits in
    omega (arith, long, size.0, is.2)

one_rule : (name : List ℕ) (domain : ℕ) (r : DataRecord) (version : Version) (aggregates : List Definition) (rule : Rule) (f : FieldSpec) (value : List ℕ)
    → matches_field name domain r (Some f.element) rule ≡ true → IsRule version aggregates rule → has_allowed_length f ≡ true → fits_field f value ≡ true
    → FitsAction value (element_action rule.action)
one_rule name domain r version aggregates rule f value matches is allowed fits =
    let on_fields = and_parts (not (is_on_records rule.action)) (is_met (is_element (Some f.element)) rule.element && (is_for name domain rule && covers r rule)) matches in
    let met = and_parts (is_met (is_element (Some f.element)) rule.element) (is_for name domain rule && covers r rule) on_fields.1 in
    one_action version aggregates rule.element rule.action f value met.0 is.action allowed fits

first_rule_within : (name : List ℕ) (domain : ℕ) (r : DataRecord) (version : Version) (aggregates : List Definition) (n : ℕ) (rules : List Rule) (f : FieldSpec) (value : List ℕ)
    → AllByRecursion (λ rule. IsRule version aggregates rule) rules → has_allowed_length f ≡ true → fits_field f value ≡ true
    → FitsAction value (element_verdict_by (find (λ x. matches_field name domain r (Some f.element) x.1) (enumerate_from n rules))).action
first_rule_within name domain r version aggregates n [] f value all allowed fits = tt
first_rule_within name domain r version aggregates n (rule ∷ rules) f value all allowed fits =
    elim (matches_field name domain r (Some f.element) rule) as (λ b. matches_field name domain r (Some f.element) rule ≡ b
    → FitsAction value (element_verdict_by (cond b (Some (n, rule)) (find (λ x. matches_field name domain r (Some f.element) x.1) (enumerate_from (n + 1) rules)))).action) [
      | true ↦ λ matches. one_rule name domain r version aggregates rule f value matches all.0 allowed fits
      | false ↦ λ _. first_rule_within name domain r version aggregates (n + 1) rules f value all.1 allowed fits
    ] refl

-- ---- the verdicts on all fields

-- a template that passes has allowed lengths, and no more scope fields than fields
pub record Passes (t : Template) : Type 0 where
  pub allowed : list_all has_allowed_length t.fields ≡ true
  pub scope : has_bad_scope (is_options t) t ≡ false

passes_by : (allowed scope empty : Bool) → cond allowed (cond scope (Some BadScope) (cond empty (Some EmptyRecord) None)) (Some BadLength) ≡ None → (allowed ≡ true) × (scope ≡ false)
passes_by true false empty e = (refl, refl)
passes_by true true empty e = absurd cc
passes_by false scope empty e = absurd cc

pub passes_of : (t : Template) → IsAcceptable t → Passes t
unfolding refusal_of
passes_of t e =
    let parts = passes_by (list_all has_allowed_length t.fields) (has_bad_scope (is_options t) t) (eqb (shortest_record t) 0) e in
    record { allowed = parts.0; scope = parts.1 }

list_all-at : {A : Type 0} (test : A → Bool) (xs : List A) (i : ℕ) (d : A) → list_all test xs ≡ true → i < length xs → test (get_or xs i d) ≡ true
list_all-at test [] i d all lt = absurd (omega arith)
list_all-at test (x ∷ xs) zero d all lt = (and_parts (test x) (list_all test xs) all).0
list_all-at test (x ∷ xs) (suc i) d all lt = list_all-at test xs i d (and_parts (test x) (list_all test xs) all).1 (omega arith)

within_from : (vs : List (List ℕ)) (ws : List ElementVerdict)
    → ((i : ℕ) (v : List ℕ) (w : ElementVerdict) → i < length vs → i < length ws → FitsAction (get_or vs i v) (get_or ws i w).action) → FitActions vs ws
within_from [] ws each = tt
within_from (v ∷ vs) [] each = tt
within_from (v ∷ vs) (w ∷ ws) each =
    (each 0 v w (omega arith) (omega arith), within_from vs ws (λ i x y lt le. each (suc i) x y (omega arith) (omega arith)))

no_field : FieldSpec
no_field = record { element = record { pen = None; number = 0 }; length = 0 }

verdict_within : (name : List ℕ) (domain : ℕ) (r : DataRecord) (version : Version) (aggregates : List Definition) (rules : List Rule) → IsSound r → AreRules version aggregates rules → (i : ℕ) (v : List ℕ)
    → i < length r.template.fields → FitsAction (get_or r.values i v) (element_verdict_of name domain r i rules).action
verdict_within name domain r version aggregates rules sound are i v lt =
    let there = element_there r r.template.fields i no_field refl lt in
    let f = get_or r.template.fields i no_field in
    let value = get_or r.values i v in
    let allowed = list_all-at has_allowed_length r.template.fields i no_field (passes_of r.template sound.accepted).allowed lt in
    let fits = fit_fields-at r.template.fields r.values i no_field v sound.fit lt in
    let within = first_rule_within name domain r version aggregates 1 rules f value are allowed fits in
    rw there within

pub verdicts_are_judged : (name : List ℕ) (domain : ℕ) (r : DataRecord) (version : Version) (aggregates : List Definition) (rules : List Rule) (verdicts : List ElementVerdict) → IsSound r → AreRules version aggregates rules
    → length r.template.fields ≤ 65535 → verdicts ≡ verdicts_of name domain r rules → AreJudged r verdicts
verdicts_are_judged name domain r version aggregates rules verdicts sound are few same =
    let verdict = λ (place : ℕ). element_verdict_of name domain r place rules in
    let long = length-map-range_with_len verdict 0 (length r.template.fields) in
    let even = fit_fields-length r.template.fields r.values sound.fit in
    let within : FitActions r.values (verdicts_of name domain r rules) =
    within_from r.values (verdicts_of name domain r rules) (λ i v w lt le.
    let here : i < length r.template.fields = omega (arith, le, long) in
    let at : get_or (verdicts_of name domain r rules) i w ≡ verdict i = get_or-map-range_with_len verdict 0 (length r.template.fields) i i w here (omega arith) in
    rw at (verdict_within name domain r version aggregates rules sound are i v here)) in
    let judged : AreJudged r (verdicts_of name domain r rules) = record { sound = sound; few = omega (arith, long, few); each = long; within = within } in
    rw same judged

-- one verdict more
pub verdicts_more : (name : List ℕ) (domain : ℕ) (r : DataRecord) (rules : List Rule) (n : ℕ) (before new : List ElementVerdict) (w : ElementVerdict)
    → before ≡ map (λ place. element_verdict_of name domain r place rules) (range_with_len 0 n) → w ≡ element_verdict_of name domain r n rules → new ≡ before ++ w ∷ []
    → new ≡ map (λ place. element_verdict_of name domain r place rules) (range_with_len 0 (n + 1))
verdicts_more name domain r rules n before new w so_far is grown =
    let more = map-range_with_len_more (λ (place : ℕ). element_verdict_of name domain r place rules) 0 n n (omega arith) in
    grown ∙ ap (λ ws. ws ++ w ∷ []) so_far ∙ ap (λ x. map (λ place. element_verdict_of name domain r place rules) (range_with_len 0 n) ++ x ∷ []) is ∙ sym more
