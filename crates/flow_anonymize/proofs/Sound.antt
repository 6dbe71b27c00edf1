-- What is left of a sound record is sound, unless a scope field is lost or no octets are left.
use Rattle.std.proofs.Common.{◌≡◌, ℕ, suc, ◌+◌, ◌<◌, ◌≤◌, Bool, true, false, cond, ltb, leb, eqb, List, [], ◌∷◌, ◌++◌, length, map, filter, Option, Some, None, refl, sym, ap, ◌∙◌, arith, not, length-append}
use Rattle.std.specs.Prelude.{◌==◌}
use Rattle.std.specs.List.{zip, find, enumerate_from, list_all, flat_map}
use Rattle.std.proofs.lemmas.Bool.{and_parts, and_from, ltb-true, ltb-false, le-ltb, eqb-true, or_from, or_parts, ne_eqb}
use Rattle.std.proofs.lemmas.List.Concat.{flat_map-cons}
use Rattle.sequences.specs.Octets.{be_octets}
use Rattle.sequences.proofs.OctetLaws.{length-be_octets}
use Rattle.ipfix_template.specs.declared.field.FieldSpec.{FieldSpec}
use Rattle.ipfix_template.specs.declared.template.Template.{Template}
use Rattle.ipfix_template.specs.declared.template.Refused.TheVariants.{BadLength, BadScope, EmptyRecord}
use Rattle.ipfix_template.specs.Template.{is_variable, has_allowed_length, has_bad_scope, shortest_record, refusal_of, is_options, IsAcceptable, specifier}
use Rattle.ipfix_template.specs.Values.{fits_field, fit_fields, value_text, record_text}
use Rattle.ipfix_template.specs.DataRecord.{DataRecord, IsSound}
use Rattle.ipfix_template.proofs.Encoding.{octets_of_record}
use Rattle.policy_judge.specs.declared.verdict.ElementAction.{ElementAction}
use Rattle.policy_judge.specs.declared.verdict.ElementAction.TheVariants.{Keep, Remove, Truncate, Degrade}
use Rattle.policy_judge.specs.declared.verdict.ElementVerdict.{ElementVerdict}
use Rattle.disclosure_audit.specs.declared.entry.RemovedField.{RemovedField}
use Rattle.flow_anonymize.specs.Remaining.{keeps, is_kept, shown_value, kept_fields, kept_values, removed_fields}
use Rattle.flow_anonymize.specs.Within.{AreJudged}
use Rattle.flow_anonymize.specs.Disclosed.{remaining_template, remaining, first_lost}
use Rattle.flow_anonymize.proofs.Bounds.{passes_of}

-- ---- shown values have their length

shown_long : (a : ElementAction) (v : List ℕ) → keeps a ≡ true → length (shown_value a v) ≡ length v
shown_long Keep v stays = refl
shown_long Remove v stays = absurd cc
shown_long (Truncate bits) v stays = length-be_octets (length v) _
shown_long (Degrade seconds) v stays = length-be_octets (length v) _

long_fits : (f : FieldSpec) (s v : List ℕ) → length s ≡ length v → fits_field f v ≡ true → fits_field f s ≡ true
long_fits f s v same fits = ap (λ n. cond (is_variable f) (leb n 65535) (eqb n f.length)) same ∙ fits

var_long : (short : Bool) (s v : List ℕ) → length s ≡ length v
    → length (cond short (length s ∷ s) (255 ∷ (be_octets 2 (length s) ++ s))) ≡ length (cond short (length v ∷ v) (255 ∷ (be_octets 2 (length v) ++ v)))
var_long true s v same = ap suc same
var_long false s v same =
    ap suc (length-append (be_octets 2 (length s)) s ∙ omega (arith, same, length-be_octets 2 (length s), length-be_octets 2 (length v)) ∙ sym (length-append (be_octets 2 (length v)) v))

text_long : (variable : Bool) (s v : List ℕ) → length s ≡ length v
    → length (cond variable (cond (ltb (length s) 255) (length s ∷ s) (255 ∷ (be_octets 2 (length s) ++ s))) s)
    ≡ length (cond variable (cond (ltb (length v) 255) (length v ∷ v) (255 ∷ (be_octets 2 (length v) ++ v))) v)
text_long true s v same =
    ap (λ n. length (cond (ltb n 255) (length s ∷ s) (255 ∷ (be_octets 2 (length s) ++ s)))) same ∙ var_long (ltb (length v) 255) s v same
text_long false s v same = same

-- ---- what is left of fields and values

-- they fit, in no more octets
pub record Left (fs : List FieldSpec) (vs : List (List ℕ)) (ws : List ElementVerdict) : Type 0 where
  pub fit : fit_fields (kept_fields fs ws) (kept_values vs ws) ≡ true
  pub octets : length (record_text (kept_fields fs ws) (kept_values vs ws)) ≤ length (record_text fs vs)

pub left_of : (fs : List FieldSpec) (vs : List (List ℕ)) (ws : List ElementVerdict) → fit_fields fs vs ≡ true → Left fs vs ws
left_of [] [] ws fit = record { fit = refl; octets = omega arith }
left_of [] (v ∷ vs) ws fit = absurd cc
left_of (f ∷ fs) [] ws fit = absurd cc
left_of (f ∷ fs) (v ∷ vs) [] fit = record { fit = refl; octets = omega arith }
left_of (f ∷ fs) (v ∷ vs) (w ∷ ws) fit =
    let parts = and_parts (fits_field f v) (fit_fields fs vs) fit in
    let rest = left_of fs vs ws parts.1 in
    let some_fields = filter (λ (p : FieldSpec × ElementVerdict). is_kept p.1) (zip fs ws) in
    let some_values = filter (λ (p : List ℕ × ElementVerdict). is_kept p.1) (zip vs ws) in
    let first = λ (p : FieldSpec × ElementVerdict). p.0 in
    let shown = λ (p : List ℕ × ElementVerdict). shown_value p.1.action p.0 in
    record {
      fit = elim (is_kept w) as (λ b. is_kept w ≡ b → fit_fields (map first (cond b ((f, w) ∷ some_fields) some_fields)) (map shown (cond b ((v, w) ∷ some_values) some_values)) ≡ true) [
        | true ↦ λ stays. and_from (fits_field f (shown_value w.action v)) _ (long_fits f (shown_value w.action v) v (shown_long w.action v stays) parts.0) rest.fit
        | false ↦ λ _. rest.fit
      ] refl;
      octets = elim (is_kept w) as (λ b. is_kept w ≡ b → length (record_text (map first (cond b ((f, w) ∷ some_fields) some_fields)) (map shown (cond b ((v, w) ∷ some_values) some_values))) ≤ length (value_text f v ++ record_text fs vs)) [
        | true ↦ λ stays.
            let same = text_long (is_variable f) (shown_value w.action v) v (shown_long w.action v stays) in
            omega (arith, same, rest.octets, length-append (value_text f v) (record_text fs vs), length-append (value_text f (shown_value w.action v)) (record_text (kept_fields fs ws) (kept_values vs ws)))
        | false ↦ λ _. omega (arith, rest.octets, length-append (value_text f v) (record_text fs vs))
      ] refl;
    }

pub allowed_left : (fs : List FieldSpec) (ws : List ElementVerdict) → list_all has_allowed_length fs ≡ true → list_all has_allowed_length (kept_fields fs ws) ≡ true
allowed_left [] ws all = refl
allowed_left (f ∷ fs) [] all = refl
allowed_left (f ∷ fs) (w ∷ ws) all =
    let parts = and_parts (has_allowed_length f) (list_all has_allowed_length fs) all in
    elim (is_kept w) as (λ b. list_all has_allowed_length (map (λ (p : FieldSpec × ElementVerdict). p.0) (cond b ((f, w) ∷ filter (λ p. is_kept p.1) (zip fs ws)) (filter (λ p. is_kept p.1) (zip fs ws)))) ≡ true)
    [ true ↦ and_from (has_allowed_length f) _ parts.0 (allowed_left fs ws parts.1) | false ↦ allowed_left fs ws parts.1 ]

pub specifiers_left : (fs : List FieldSpec) (ws : List ElementVerdict) → length (flat_map specifier (kept_fields fs ws)) ≤ length (flat_map specifier fs)
specifiers_left [] ws = omega arith
specifiers_left (f ∷ fs) [] = omega arith
specifiers_left (f ∷ fs) (w ∷ ws) =
    let rest = specifiers_left fs ws in
    let all = ap length (flat_map-cons specifier f fs) ∙ length-append (specifier f) (flat_map specifier fs) in
    elim (is_kept w) as (λ b. length (flat_map specifier (map (λ (p : FieldSpec × ElementVerdict). p.0) (cond b ((f, w) ∷ filter (λ p. is_kept p.1) (zip fs ws)) (filter (λ p. is_kept p.1) (zip fs ws))))) ≤ length (flat_map specifier (f ∷ fs))) [
      | true ↦
          let more = ap length (flat_map-cons specifier f (kept_fields fs ws)) ∙ length-append (specifier f) (flat_map specifier (kept_fields fs ws)) in
          omega (arith, rest, all, more)
      | false ↦ omega (arith, rest, all)
    ]

pub few_left : (fs : List FieldSpec) (ws : List ElementVerdict) → length (kept_fields fs ws) ≤ length fs
few_left [] ws = omega arith
few_left (f ∷ fs) [] = omega arith
few_left (f ∷ fs) (w ∷ ws) =
    let rest = few_left fs ws in
    elim (is_kept w) as (λ b. length (map (λ (p : FieldSpec × ElementVerdict). p.0) (cond b ((f, w) ∷ filter (λ p. is_kept p.1) (zip fs ws)) (filter (λ p. is_kept p.1) (zip fs ws)))) ≤ suc (length fs))
    [ true ↦ omega (arith, rest) | false ↦ omega (arith, rest) ]

-- ---- scope fields

unfoldable pub removed_from : ℕ → List ElementVerdict → List RemovedField
removed_from n ws = map (λ p. record { place = p.0; rule = p.1.rule }) (filter (λ p. not (is_kept p.1)) (enumerate_from n ws))

scope_stays : (scope n : ℕ) (fs : List FieldSpec) (ws : List ElementVerdict) → first_lost scope (removed_from n ws) ≡ None → length ws ≡ length fs
    → scope ≤ n + length fs → scope ≤ n + length (kept_fields fs ws)
unfolding removed_from
scope_stays scope n [] ws none each within = within
scope_stays scope n (f ∷ fs) [] none each within = absurd (omega (arith, each))
scope_stays scope n (f ∷ fs) (w ∷ ws) none each within =
    let some_fields = filter (λ (p : FieldSpec × ElementVerdict). is_kept p.1) (zip fs ws) in
    let rest = filter (λ (p : ℕ × ElementVerdict). not (is_kept p.1)) (enumerate_from (n + 1) ws) in
    let as_removed = λ (p : ℕ × ElementVerdict). let field : RemovedField = record { place = p.0; rule = p.1.rule } in field in
    elim (is_kept w) as (λ b. find (λ (x : RemovedField). ltb x.place scope) (map as_removed (cond (not b) ((n, w) ∷ rest) rest)) ≡ None
    → scope ≤ n + length (map (λ (p : FieldSpec × ElementVerdict). p.0) (cond b ((f, w) ∷ some_fields) some_fields))) [
      | true ↦ λ others. let left = scope_stays scope (n + 1) fs ws others (omega (arith, each)) (omega (arith, within)) in omega (arith, left)
      | false ↦ λ others. lost (ltb n scope) _ others refl
    ] none where
      lost : (b : Bool) (o : Option RemovedField) → cond b (Some (record { place = n; rule = w.rule })) o ≡ None → ltb n scope ≡ b
          → scope ≤ n + length (map (λ (p : FieldSpec × ElementVerdict). p.0) (filter (λ (p : FieldSpec × ElementVerdict). is_kept p.1) (zip fs ws)))
      lost true o e is = absurd cc
      lost false o e is = let past = ltb-false n scope is in omega (arith, past)

-- ---- where no field is left out

all_stay : (n : ℕ) (fs : List FieldSpec) (ws : List ElementVerdict) → length (removed_from n ws) ≡ 0 → length ws ≡ length fs → kept_fields fs ws ≡ fs
unfolding removed_from
all_stay n [] ws none each = refl
all_stay n (f ∷ fs) [] none each = absurd (omega (arith, each))
all_stay n (f ∷ fs) (w ∷ ws) none each =
    let some_fields = filter (λ (p : FieldSpec × ElementVerdict). is_kept p.1) (zip fs ws) in
    let rest = filter (λ (p : ℕ × ElementVerdict). not (is_kept p.1)) (enumerate_from (n + 1) ws) in
    let as_removed = λ (p : ℕ × ElementVerdict). let field : RemovedField = record { place = p.0; rule = p.1.rule } in field in
    elim (is_kept w) as (λ b. length (map as_removed (cond (not b) ((n, w) ∷ rest) rest)) ≡ 0
    → map (λ (p : FieldSpec × ElementVerdict). p.0) (cond b ((f, w) ∷ some_fields) some_fields) ≡ f ∷ fs) [
      | true ↦ λ others. ap (λ gs. f ∷ gs) (all_stay (n + 1) fs ws others (omega (arith, each)))
      | false ↦ λ others. absurd (omega (arith, others))
    ] none

-- the template stays
pub template_stays : (t : Template) (ws : List ElementVerdict) → length (removed_fields ws) ≡ 0 → length ws ≡ length t.fields → remaining_template t ws ≡ t
unfolding removed_from
template_stays t ws none each = ap (λ (fields : List FieldSpec). record { fields = fields; scope = t.scope }) (all_stay 0 t.fields ws none each)

-- ---- the record

positive_test : (n : ℕ) → 0 < n → (n == 0) ≡ false
positive_test n positive = by (n == 0) refl where
  by : (b : Bool) → (n == 0) ≡ b → b ≡ false
  by true e = let zero_is = eqb-true n 0 e in absurd (omega (arith, zero_is, positive))
  by false e = refl

no_bad_scope : (options : Bool) (t : Template) → is_options t ≡ options → t.scope ≤ length t.fields → has_bad_scope options t ≡ false
no_bad_scope true t is within = or_from (t.scope == 0) (ltb (length t.fields) t.scope) (positive_test t.scope (ltb-true 0 t.scope is)) (le-ltb (length t.fields) t.scope within)
no_bad_scope false t is within = is

scope_within : (options : Bool) (t : Template) → has_bad_scope options t ≡ false → t.scope ≤ length t.fields
scope_within true t e = let parts = or_parts (t.scope == 0) (ltb (length t.fields) t.scope) e in ltb-false (length t.fields) t.scope parts.1
scope_within false t e = let none = ltb-false 0 t.scope e in omega (arith, none)

accepts : (allowed scope empty : Bool) → allowed ≡ true → scope ≡ false → empty ≡ false → cond allowed (cond scope (Some BadScope) (cond empty (Some EmptyRecord) None)) (Some BadLength) ≡ None
accepts true false false a s e = refl
accepts true false true a s e = absurd cc
accepts true true empty a s e = absurd cc
accepts false scope empty a s e = absurd cc

accepted_of : (t : Template) → list_all has_allowed_length t.fields ≡ true → t.scope ≤ length t.fields → (shortest_record t == 0) ≡ false → IsAcceptable t
unfolding refusal_of
accepted_of t allowed within octets =
    accepts (list_all has_allowed_length t.fields) (has_bad_scope (is_options t) t) (shortest_record t == 0) allowed (no_bad_scope (is_options t) t refl within) octets

pub left_is_sound : (r : DataRecord) (ws : List ElementVerdict) → IsSound r → length ws ≡ length r.template.fields
    → first_lost r.template.scope (removed_fields ws) ≡ None
    → (shortest_record (remaining_template r.template ws) == 0) ≡ false → IsSound (remaining r ws)
unfolding removed_from
left_is_sound r ws sound each none octets =
    let t = r.template in
    let left = left_of t.fields r.values ws sound.fit in
    let passes = passes_of t sound.accepted in
    let within = scope_within (is_options t) t passes.scope in
    let scope = scope_stays t.scope 0 t.fields ws none each (omega (arith, within)) in
    let before = octets_of_record 256 t in
    let after = octets_of_record 256 (remaining_template t ws) in
    let fewer = specifiers_left t.fields ws in
    record {
      accepted = accepted_of (remaining_template t ws) (allowed_left t.fields ws passes.allowed) (omega (arith, scope)) octets;
      fit = left.fit;
      template_fits = omega (arith, before, after, fewer, sound.template_fits);
      record_fits = omega (arith, left.octets, sound.record_fits);
    }

-- the same of a template and values that are found to be what is left
pub found_sound : (r : DataRecord) (ws : List ElementVerdict) (scope : ℕ) (removed : List RemovedField) (t : Template) (vs : List (List ℕ)) → AreJudged r ws
    → scope ≡ r.template.scope → removed ≡ removed_fields ws → first_lost scope removed ≡ None → t ≡ remaining_template r.template ws → (shortest_record t ≡ 0 → ⊥)
    → vs ≡ kept_values r.values ws → IsSound (record { template = t; values = vs })
found_sound r ws scope removed t vs judged is-scope is-removed none is-t octets is-vs =
    let some : (shortest_record (remaining_template r.template ws) == 0) ≡ false = ap (λ (x : Template). shortest_record x == 0) (sym is-t) ∙ ne_eqb (shortest_record t) 0 octets in
    let stays : first_lost r.template.scope (removed_fields ws) ≡ None = rw (← is-scope, ← is-removed) none in
    rw (is-t, is-vs) (left_is_sound r ws judged.sound judged.each stays some)
