-- What is denied changes nothing.
use Rattle.std.proofs.Common.{◌≡◌, ℕ, suc, ◌*◌, ◌-◌, ◌^◌, ◌/◌, Bool, true, false, cond, List, [], ◌∷◌, length, map, filter, Option, Some, None, refl, sym, ap, ◌∙◌, arith, not, nat_lt}
use Rattle.std.specs.Prelude.{slice_get, ◌&&◌, ◌||◌, option_map}
use Rattle.std.specs.List.{zip, range_with_len, list_any, list_all, AllByRecursion}
use Rattle.sequences.specs.Octets.{be_value, be_octets}
use Rattle.flow_prefix.specs.declared.prefix.Prefix.{Prefix}
use Rattle.flow_prefix.specs.Prefixes.{contains}
use Rattle.ipfix_template.specs.declared.template.Template.{Template}
use Rattle.ipfix_template.specs.DataRecord.{DataRecord}
use Rattle.policy_text.specs.declared.rule.Rule.{Rule}
use Rattle.policy_judge.specs.declared.verdict.ElementAction.{ElementAction}
use Rattle.policy_judge.specs.declared.verdict.ElementAction.TheVariants.{Keep, Remove, Truncate, Degrade}
use Rattle.policy_judge.specs.declared.verdict.ElementVerdict.{ElementVerdict}
use Rattle.policy_judge.specs.Occurrences.{sources, destinations}
use Rattle.policy_judge.specs.Match.{is_met, is_on_records, denies, are_inside, is_for, covers, is_element, element_at, matches_record, matches_field}
use Rattle.policy_judge.specs.Verdicts.{first_rule, record_verdict_by, element_verdict_by, record_verdict_of, element_verdict_of}
use Rattle.std.proofs.lemmas.List.{length-map}
use Rattle.flow_anonymize.specs.Outcome.{Outcome}
use Rattle.flow_anonymize.specs.Times.{step_of_time}
use Rattle.flow_anonymize.specs.Remaining.{verdicts_of, keeps, is_kept, shown_value, kept_values, removed_fields}
use Rattle.flow_anonymize.specs.Disclosed.{remaining_template, first_lost, unless_lost, transformed, by_verdict}
use Rattle.flow_anonymize.specs.Secrecy.{AreValuesAlike, AreInsideAlike, AreCoveredAlike, DeniedIsSecret}
use Rattle.flow_anonymize.proofs.Places.{map_alike, range_at, find_alike, each_so}

-- ---- rules match alike

any_map : {A : Type 0} (test : A → Bool) (xs : List A) → list_any test xs ≡ list_any (λ b. b) (map test xs)
any_map test [] = refl
any_map test (x ∷ xs) = ap (λ b. test x || b) (any_map test xs)

all_map : {A : Type 0} (test : A → Bool) (xs : List A) → list_all test xs ≡ list_all (λ b. b) (map test xs)
all_map test [] = refl
all_map test (x ∷ xs) = ap (λ b. test x && b) (all_map test xs)

inside_alike : (deny : Bool) (vs ws : List (List ℕ)) (prefix : Prefix) → map (contains prefix) vs ≡ map (contains prefix) ws → are_inside deny vs prefix ≡ are_inside deny ws prefix
inside_alike true vs ws prefix same = any_map (contains prefix) vs ∙ ap (list_any (λ b. b)) same ∙ sym (any_map (contains prefix) ws)
inside_alike false vs ws prefix same =
    let count : length vs ≡ length ws = sym (length-map vs (contains prefix)) ∙ ap length same ∙ length-map ws (contains prefix) in
    let all : list_all (contains prefix) vs ≡ list_all (contains prefix) ws = all_map (contains prefix) vs ∙ ap (list_all (λ b. b)) same ∙ sym (all_map (contains prefix) ws) in
    ap (λ n. nat_lt 0 n && list_all (contains prefix) vs) count ∙ ap (λ b. nat_lt 0 (length ws) && b) all

met_alike : (deny : Bool) (vs ws : List (List ℕ)) (prefix : Option Prefix) → AreInsideAlike vs ws prefix → is_met (are_inside deny vs) prefix ≡ is_met (are_inside deny ws) prefix
met_alike deny vs ws None same = refl
met_alike deny vs ws (Some prefix) same = inside_alike deny vs ws prefix same

covers_alike : (r s : DataRecord) (rule : Rule) → AreCoveredAlike r s rule → covers r rule ≡ covers s rule
covers_alike r s rule same =
    ap (λ b. b && is_met (are_inside (denies rule.action) (destinations r)) rule.to) (met_alike (denies rule.action) (sources r) (sources s) rule.from same.0)
    ∙ ap (λ b. is_met (are_inside (denies rule.action) (sources s)) rule.from && b) (met_alike (denies rule.action) (destinations r) (destinations s) rule.to same.1)

pub record_alike : (name : List ℕ) (domain : ℕ) (r s : DataRecord) (rules : List Rule) → AllByRecursion (AreCoveredAlike r s) rules
    → record_verdict_of name domain r rules ≡ record_verdict_of name domain s rules
record_alike name domain r s rules same =
    ap record_verdict_by (find_alike (matches_record name domain r) (matches_record name domain s) 1 rules
    (each_so (AreCoveredAlike r s) (λ rule. matches_record name domain r rule ≡ matches_record name domain s rule) rules
    (λ rule alike. ap (λ b. is_on_records rule.action && (is_for name domain rule && b)) (covers_alike r s rule alike)) same))

field_alike : (name : List ℕ) (domain : ℕ) (r s : DataRecord) (place : ℕ) (rules : List Rule) → r.template ≡ s.template → AllByRecursion (AreCoveredAlike r s) rules
    → element_verdict_of name domain r place rules ≡ element_verdict_of name domain s place rules
field_alike name domain r s place rules template same =
    ap (λ (t : Template). element_verdict_by (first_rule (matches_field name domain r (option_map (λ f. f.element) (slice_get t.fields place))) rules)) template
    ∙ ap element_verdict_by (find_alike (matches_field name domain r (element_at s place)) (matches_field name domain s (element_at s place)) 1 rules
    (each_so (AreCoveredAlike r s) (λ rule. matches_field name domain r (element_at s place) rule ≡ matches_field name domain s (element_at s place) rule) rules
    (λ rule alike. ap (λ b. not (is_on_records rule.action) && (is_met (is_element (element_at s place)) rule.element && (is_for name domain rule && b))) (covers_alike r s rule alike)) same))

pub verdicts_alike : (name : List ℕ) (domain : ℕ) (r s : DataRecord) (rules : List Rule) → r.template ≡ s.template → AllByRecursion (AreCoveredAlike r s) rules
    → verdicts_of name domain r rules ≡ verdicts_of name domain s rules
verdicts_alike name domain r s rules template same =
    ap (λ (t : Template). map (λ place. element_verdict_of name domain r place rules) (range_with_len 0 (length t.fields))) template
    ∙ map_alike (λ place. element_verdict_of name domain r place rules) (λ place. element_verdict_of name domain s place rules) (range_with_len 0 (length s.template.fields))
    (λ place. field_alike name domain r s place rules template same)

-- ---- values are shown alike

shown_alike : (a : ElementAction) (v w : List ℕ) → keeps a ≡ true → AreValuesAlike a v w → shown_value a v ≡ shown_value a w
shown_alike Keep v w stays same = same
shown_alike Remove v w stays same = absurd cc
shown_alike (Truncate bits) v w stays same =
    ap (λ n. be_octets n (be_value v / 2 ^ (8 * length v - bits) * 2 ^ (8 * n - bits))) same.0
    ∙ ap (λ q. be_octets (length w) (q * 2 ^ (8 * length w - bits))) same.1
shown_alike (Degrade seconds) v w stays same =
    ap (λ n. be_octets n (be_value v / step_of_time (length v) seconds * step_of_time n seconds)) same.0
    ∙ ap (λ q. be_octets (length w) (q * step_of_time (length w) seconds)) same.1

values_alike : (vs us : List (List ℕ)) (ws : List ElementVerdict) → length vs ≡ length us
    → ((place : ℕ) (v u : List ℕ) (w : ElementVerdict) → slice_get ws place ≡ Some w → slice_get vs place ≡ Some v → slice_get us place ≡ Some u → AreValuesAlike w.action v u)
    → kept_values vs ws ≡ kept_values us ws
values_alike [] [] ws count each = refl
values_alike [] (u ∷ us) ws count each = absurd (omega (arith, count))
values_alike (v ∷ vs) [] ws count each = absurd (omega (arith, count))
values_alike (v ∷ vs) (u ∷ us) [] count each = refl
values_alike (v ∷ vs) (u ∷ us) (w ∷ ws) count each =
    let rest = values_alike vs us ws (omega (arith, count)) (λ place x y z a b c. each (suc place) x y z a b c) in
    let shown = λ (p : List ℕ × ElementVerdict). shown_value p.1.action p.0 in
    let some_vs = filter (λ (p : List ℕ × ElementVerdict). is_kept p.1) (zip vs ws) in
    let some_us = filter (λ (p : List ℕ × ElementVerdict). is_kept p.1) (zip us ws) in
    elim (is_kept w) as (λ b. is_kept w ≡ b → map shown (cond b ((v, w) ∷ some_vs) some_vs) ≡ map shown (cond b ((u, w) ∷ some_us) some_us)) [
      | true ↦ λ stays. ap (λ x. x ∷ kept_values vs ws) (shown_alike w.action v u stays (each 0 v u w refl refl refl)) ∙ ap (λ xs. shown_value w.action u ∷ xs) rest
      | false ↦ λ _. rest
    ] refl

-- ---- the whole

-- what verdicts leave of a template and shown values
abbrev left_of : Template → List (List ℕ) → List ElementVerdict → Outcome
left_of t shown ws = unless_lost (first_lost t.scope (removed_fields ws)) (record { template = remaining_template t ws; values = shown }) (removed_fields ws)

transformed_alike : (r s : DataRecord) (ws : List ElementVerdict) → r.template ≡ s.template → kept_values r.values ws ≡ kept_values s.values ws → transformed r ws ≡ transformed s ws
transformed_alike r s ws template values =
    ap (λ (t : Template). left_of t (kept_values r.values ws) ws) template ∙ ap (λ shown. left_of s.template shown ws) values

pub denied_is_secret : DeniedIsSecret
denied_is_secret name domain rules r s alike =
    let verdicts = verdicts_alike name domain r s rules alike.template alike.prefixes in
    let values = values_alike r.values s.values (verdicts_of name domain r rules) alike.count (λ place v u w at here there.
    let is : w ≡ element_verdict_of name domain r place rules = range_at (λ place. element_verdict_of name domain r place rules) 0 (length r.template.fields) place w at ∙ ap (λ n. element_verdict_of name domain r n rules) (omega arith) in
    rw is (alike.values place v u here there)) in
    ap (λ verdict. by_verdict verdict (transformed r (verdicts_of name domain r rules))) (record_alike name domain r s rules alike.prefixes)
    ∙ ap (by_verdict (record_verdict_of name domain s rules)) (transformed_alike r s (verdicts_of name domain r rules) alike.template values ∙ ap (transformed s) verdicts)
