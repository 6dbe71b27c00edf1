-- What is split by a template that is kept is a sound record, and takes some octets.
use Rattle.std.proofs.Common.{inl, inr, ◌≡◌, ℕ, ◌+◌, ◌<◌, ◌≤◌, Bool, true, false, cond, ltb, leb, eqb, List, [], ◌∷◌, ◌++◌, length, take, drop, Option, Some, None, refl, ap, ◌∙◌, arith, length-append, length-drop}
use Rattle.std.specs.Prelude.{MatchBool, IfSome}
use Rattle.std.specs.List.{sum_by, list_all}
use Rattle.std.proofs.lemmas.Bool.{leb-true, ltb-false, eqb-false, le-leb, eq-eqb, and_from, cond_both}
use Rattle.std.proofs.lemmas.List.Sums.{sum_by-cons}
use Rattle.sequences.specs.Octets.{be_value, be_octets}
use Rattle.sequences.specs.Sequence.{TakesSome}
use Rattle.sequences.proofs.OctetLaws.{length-be_octets}
use Rattle.ipfix_octets.specs.Variable.{IsVarText, shortest_text, value_within, varlen_at}
use Rattle.ipfix_template.specs.declared.field.FieldSpec.{FieldSpec}
use Rattle.ipfix_template.specs.declared.template.Template.{Template}
use Rattle.ipfix_template.specs.declared.template.Refused.TheVariants.{BadLength, BadScope, EmptyRecord}
use Rattle.ipfix_template.specs.Template.{is_variable, least_octets, shortest_record, has_allowed_length, has_bad_scope, refusal_of, is_options, IsAcceptable}
use Rattle.ipfix_template.specs.Values.{IsText, Splits, span_at, values_at, found_record, record_front, fits_field, fit_fields, value_text, record_text}
use Rattle.ipfix_template.specs.DataRecord.{IsSound}
use Rattle.sequences.specs.Options.{◌>>=◌}
use Rattle.sequences.proofs.SequenceLaws.{Lessens, takes_some}
use Rattle.ipfix_session.specs.Keeping.{IsKeepable}

-- ---- values that were split fit their fields, and their shortest texts are no longer than what was split

-- what a text is for its field
pub record TextFits (f : FieldSpec) (text value : List ℕ) : Type 0 where
  pub fits : fits_field f value ≡ true
  pub shortest : length (value_text f value) ≤ length text

shortest_by : (short : Bool) (value : List ℕ) → ltb (length value) 255 ≡ short → length (cond short (length value ∷ value) (255 ∷ (be_octets 2 (length value) ++ value))) ≤ cond short 1 3 + length value
shortest_by true value is = omega arith
shortest_by false value is = omega (arith, length-append (be_octets 2 (length value)) value, length-be_octets 2 (length value))

shortest_most : (short : Bool) (value : List ℕ) → ltb (length value) 255 ≡ short → length (cond short (length value ∷ value) (255 ∷ (be_octets 2 (length value) ++ value))) ≤ 3 + length value
shortest_most true value is = omega arith
shortest_most false value is = omega (arith, length-append (be_octets 2 (length value)) value, length-be_octets 2 (length value))

var_shortest : (text value : List ℕ) → IsVarText text value → length (shortest_text value) ≤ length text
var_shortest text value (inl s) = short (ltb (length value) 255) refl where
  short : (b : Bool) → ltb (length value) 255 ≡ b → length (cond b (length value ∷ value) (255 ∷ (be_octets 2 (length value) ++ value))) ≤ length text
  short true is = omega (arith, ap length s.1)
  short false is = absurd (let long = ltb-false _ _ is in omega (arith, long, s.0))
var_shortest text value (inr s) =
    let most = shortest_most (ltb (length value) 255) value refl in
    omega (arith, most, ap length s.2, length-append s.0 value, s.1.wide)

var_length : (text value : List ℕ) → IsVarText text value → length value ≤ length text
var_length text value (inl s) = omega (arith, ap length s.1)
var_length text value (inr s) = omega (arith, ap length s.2, length-append s.0 value)

text_by : (variable : Bool) (len : ℕ) (text value : List ℕ) → length text ≤ 65535 → MatchBool variable (IsVarText text value) ((text ≡ value) × (length value ≡ len)) → (cond variable (leb (length value) 65535) (eqb (length value) len) ≡ true) × (length (cond variable (shortest_text value) value) ≤ length text)
text_by true len text value few is = (le-leb _ _ (let n = var_length text value is in omega (arith, n, few)), var_shortest text value is)
text_by false len text value few is = (eq-eqb _ _ is.1, omega (arith, ap length is.0))

text_fits : (f : FieldSpec) (text value : List ℕ) → length text ≤ 65535 → IsText f text value → TextFits f text value
text_fits f text value few is =
    let both = text_by (is_variable f) f.length text value few is in
    record { fits = both.0; shortest = both.1 }

pub record ValuesFit (fs : List FieldSpec) (text : List ℕ) (values : List (List ℕ)) : Type 0 where
  pub fit : fit_fields fs values ≡ true
  pub shortest : length (record_text fs values) ≤ length text

pub values_fit : (fs : List FieldSpec) (text : List ℕ) (values : List (List ℕ)) → length text ≤ 65535 → Splits fs text values → ValuesFit fs text values
values_fit [] text [] few is = record { fit = refl; shortest = omega arith }
values_fit [] text (v ∷ vs) few is = absurd is
values_fit (f ∷ fs) text [] few is = absurd is
values_fit (f ∷ fs) text (v ∷ vs) few is =
    let front = is.0 in
    let back = is.1 in
    let wide : length text ≡ length front + length back = ap length is.2 ∙ length-append front back in
    let first = text_fits f front v (omega (arith, wide, few)) is.3 in
    let others = values_fit fs back vs (omega (arith, wide, few)) is.4 in
    record {
      fit = and_from (fits_field f v) (fit_fields fs vs) first.fits others.fit;
      shortest = omega (arith, wide, first.shortest, others.shortest, length-append (value_text f v) (record_text fs vs));
    }

-- what was split by a template that is kept is a sound record
pub sound_of : (t : Template) (text : List ℕ) (values : List (List ℕ)) → IsKeepable t → 20 + length text ≤ 65535 → Splits t.fields text values → IsSound (record { template = t; values = values })
sound_of t text values keepable few is =
    let fit = values_fit t.fields text values (omega (arith, few)) is in
    record { accepted = keepable.accepted; fit = fit.fit; template_fits = keepable.fits; record_fits = omega (arith, few, fit.shortest) }

-- ---- a record takes some octets

some_by : (allowed scope empty : Bool) (n : ℕ) → eqb n 0 ≡ empty → cond allowed (cond scope (Some BadScope) (cond empty (Some EmptyRecord) None)) (Some BadLength) ≡ None → 0 < n
some_by true false false n is e = let ne = eqb-false _ _ is in omega (arith, ne)
some_by true false true n is e = absurd cc
some_by true true empty n is e = absurd cc
some_by false scope empty n is e = absurd cc

pub shortest_some : (t : Template) → IsAcceptable t → 0 < shortest_record t
unfolding refusal_of
shortest_some t e = some_by (list_all has_allowed_length t.fields) (has_bad_scope (is_options t) t) (eqb (shortest_record t) 0) (shortest_record t) refl e

-- a value stands within the octets, and takes no less than its field says
abbrev SpanFits : ℕ → ℕ → Option (ℕ × ℕ) → Type 0
SpanFits least total span = IfSome span (λ s. (least ≤ s.0 + s.1) × (s.0 + s.1 ≤ total))

within_fits : (start len : ℕ) (octets : List ℕ) → 1 ≤ start → SpanFits 1 (length octets) (value_within start len octets)
within_fits start len octets some =
    cond_both (leb (start + len) (length octets)) _ _ (SpanFits 1 (length octets)) (λ is. (omega (arith, some), leb-true _ _ is)) (λ _. tt)

var_fits : (octets : List ℕ) → SpanFits 1 (length octets) (varlen_at octets)
unfolding varlen_at
var_fits [] = tt
var_fits (first ∷ rest) =
    cond_both (eqb first 255) _ _ (SpanFits 1 (length (first ∷ rest)))
    (λ _. cond_both (ltb (length rest) 2) _ _ (SpanFits 1 (length (first ∷ rest))) (λ _. tt) (λ _. within_fits 3 (be_value (take 2 rest)) (first ∷ rest) (omega arith)))
    (λ _. within_fits 1 first (first ∷ rest) (omega arith))

span_by : (variable : Bool) (len : ℕ) (octets : List ℕ) → SpanFits (cond variable 1 len) (length octets) (cond variable (varlen_at octets) (cond (leb len (length octets)) (Some (0, len)) None))
span_by true len octets = var_fits octets
span_by false len octets =
    cond_both (leb len (length octets)) _ _ (SpanFits len (length octets)) (λ is. let le = leb-true _ _ is in (omega arith, omega (arith, le))) (λ _. tt)

span_fits : (f : FieldSpec) (octets : List ℕ) → SpanFits (least_octets f) (length octets) (span_at f octets)
span_fits f octets = span_by (is_variable f) f.length octets

abbrev TakesLeast : ℕ → ℕ → Option (List (List ℕ) × List ℕ) → Type 0
TakesLeast least total found = IfSome found (λ f. least + length f.1 ≤ total)

values_take : (fs : List FieldSpec) (octets : List ℕ) → TakesLeast (sum_by least_octets fs) (length octets) (values_at fs octets)
unfolding values_at
values_take [] octets = omega arith
values_take (f ∷ fs) octets = first (λ rest. values_take fs rest) (span_at f octets) (span_fits f octets) where
  others : (span : ℕ × ℕ) (value : List ℕ) (found : Option (List (List ℕ) × List ℕ)) → (least_octets f ≤ span.0 + span.1) × (span.0 + span.1 ≤ length octets) → TakesLeast (sum_by least_octets fs) (length (drop (span.0 + span.1) octets)) found → TakesLeast (sum_by least_octets (f ∷ fs)) (length octets) (found >>= λ o. Some (value ∷ o.0, o.1))
  others span value None fits h = tt
  others span value (Some o) fits h = omega (arith, fits.0, fits.1, h, length-drop (span.0 + span.1) octets, sum_by-cons least_octets f fs)

  first : ((rest : List ℕ) → TakesLeast (sum_by least_octets fs) (length rest) (values_at fs rest)) → (span : Option (ℕ × ℕ)) → SpanFits (least_octets f) (length octets) span → TakesLeast (sum_by least_octets (f ∷ fs)) (length octets) (span >>= λ s. values_at fs (drop (s.0 + s.1) octets) >>= λ o. Some (take s.1 (drop s.0 octets) ∷ o.0, o.1))
  first more None fits = tt
  first more (Some s) fits = others s (take s.1 (drop s.0 octets)) (values_at fs (drop (s.0 + s.1) octets)) fits (more (drop (s.0 + s.1) octets))

record_lessens : (t : Template) → IsAcceptable t → (octets : List ℕ) → Lessens (length octets) (record_front t octets)
unfolding record_front
record_lessens t accepted octets =
    cond_both (ltb (length octets) (shortest_record t)) _ _ (Lessens (length octets)) (λ _. tt)
    (λ _. found (values_at t.fields octets) (values_take t.fields octets)) where
      found : (o : Option (List (List ℕ) × List ℕ)) → TakesLeast (sum_by least_octets t.fields) (length octets) o → Lessens (length octets) (found_record o)
      found None h = tt
      found (Some o) h = let some = shortest_some t accepted in omega (arith, some, h)

pub record_takes : (t : Template) → IsAcceptable t → TakesSome (record_front t)
record_takes t accepted = takes_some (record_front t) (record_lessens t accepted)
