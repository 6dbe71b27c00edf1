-- The octets of what is shown of a record.
use Rattle.std.proofs.Common.{◌≡◌, ℕ, true, List, [], ◌∷◌, ◌++◌, length, refl, sym, ap, ◌∙◌, arith}
use Rattle.std.specs.List.{zip, list_all}
use Rattle.std.proofs.lemmas.Bool.{and_parts}
use Rattle.ipfix_template.specs.declared.field.FieldSpec.{FieldSpec}
use Rattle.ipfix_template.specs.Values.{value_text, record_text}
use Rattle.policy_judge.specs.declared.verdict.ElementAction.{ElementAction}
use Rattle.policy_judge.specs.declared.verdict.ElementAction.TheVariants.{Keep, Remove, Truncate, Degrade}
use Rattle.policy_judge.specs.declared.verdict.ElementVerdict.{ElementVerdict}
use Rattle.flow_prefix.specs.Bits.{kept_octets}
use Rattle.flow_anonymize.specs.Times.{degraded_octets}
use Rattle.flow_anonymize.specs.Remaining.{kept_fields, kept_values}
use Rattle.flow_anonymize.specs.Within.{stays_whole, is_whole}
use Rattle.flow_anonymize.specs.Texts.{shown_text, shown_texts}

-- field by field, or as a whole
pub texts_are : (fs : List FieldSpec) (vs : List (List ℕ)) (ws : List ElementVerdict) → length fs ≡ length vs → shown_texts (zip fs vs) ws ≡ record_text (kept_fields fs ws) (kept_values vs ws)
texts_are [] [] ws e = refl
texts_are [] (v ∷ vs) ws e = absurd (omega (arith, e))
texts_are (f ∷ fs) [] ws e = absurd (omega (arith, e))
texts_are (f ∷ fs) (v ∷ vs) [] e = refl
texts_are (f ∷ fs) (v ∷ vs) (w ∷ ws) e = one_more f v w.action fs vs ws w refl (texts_are fs vs ws (omega (arith, e))) where
  one_more : (f : FieldSpec) (v : List ℕ) (a : ElementAction) (fs : List FieldSpec) (vs : List (List ℕ)) (ws : List ElementVerdict) (w : ElementVerdict) → w.action ≡ a
      → shown_texts (zip fs vs) ws ≡ record_text (kept_fields fs ws) (kept_values vs ws)
      → shown_text f v w.action ++ shown_texts (zip fs vs) ws ≡ record_text (kept_fields (f ∷ fs) (w ∷ ws)) (kept_values (v ∷ vs) (w ∷ ws))
  one_more f v Keep fs vs ws w is rest = rw is (ap (λ t. value_text f v ++ t) rest)
  one_more f v Remove fs vs ws w is rest = rw is rest
  one_more f v (Truncate bits) fs vs ws w is rest = rw is (ap (λ t. value_text f (kept_octets bits v) ++ t) rest)
  one_more f v (Degrade seconds) fs vs ws w is rest = rw is (ap (λ t. value_text f (degraded_octets seconds v) ++ t) rest)

-- where all fields stay as they are
whole_one : (a : ElementAction) → stays_whole a ≡ true → a ≡ Keep
whole_one Keep e = refl
whole_one Remove e = absurd cc
whole_one (Truncate bits) e = absurd cc
whole_one (Degrade seconds) e = absurd cc

whole_fields : (fs : List FieldSpec) (ws : List ElementVerdict) → length ws ≡ length fs → list_all is_whole ws ≡ true → kept_fields fs ws ≡ fs
whole_fields [] ws e all = refl
whole_fields (f ∷ fs) [] e all = absurd (omega (arith, e))
whole_fields (f ∷ fs) (w ∷ ws) e all =
    let parts = and_parts (is_whole w) (list_all is_whole ws) all in
    rw (whole_one w.action parts.0) (ap (λ gs. f ∷ gs) (whole_fields fs ws (omega (arith, e)) parts.1))

whole_values : (vs : List (List ℕ)) (ws : List ElementVerdict) → length ws ≡ length vs → list_all is_whole ws ≡ true → kept_values vs ws ≡ vs
whole_values [] ws e all = refl
whole_values (v ∷ vs) [] e all = absurd (omega (arith, e))
whole_values (v ∷ vs) (w ∷ ws) e all =
    let parts = and_parts (is_whole w) (list_all is_whole ws) all in
    rw (whole_one w.action parts.0) (ap (λ us. v ∷ us) (whole_values vs ws (omega (arith, e)) parts.1))

pub whole_text : (fs : List FieldSpec) (vs : List (List ℕ)) (ws : List ElementVerdict) → length ws ≡ length fs → length fs ≡ length vs → true ≡ list_all is_whole ws
    → record_text fs vs ≡ record_text (kept_fields fs ws) (kept_values vs ws)
whole_text fs vs ws each same all =
    ap (λ gs. record_text gs vs) (sym (whole_fields fs ws each (sym all))) ∙ ap (record_text (kept_fields fs ws)) (sym (whole_values vs ws (each ∙ same) (sym all)))
