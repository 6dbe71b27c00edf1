-- What is found at the front of octets is split so by the fields, and what is split so is found.
use Rattle.std.proofs.Common.{inl, inr, ◌≡◌, ℕ, ◌+◌, ◌-◌, ◌≤◌, Bool, true, false, cond, leb, List, [], ◌∷◌, ◌++◌, length, take, drop, Option, Some, None, refl, sym, ap, subst, ◌∙◌, append_assoc, arith, length-append}
use Rattle.std.specs.Prelude.{MatchBool}
use Rattle.std.specs.List.{sum_by}
use Rattle.std.proofs.lemmas.Bool.{leb-true, le-leb}
use Rattle.std.proofs.lemmas.List.{take-append-drop, length-take-le, take_at, drop_at}
use Rattle.std.proofs.lemmas.List.Sums.{sum_by-cons}
use Rattle.sequences.specs.Octets.{AreOctets}
use Rattle.sequences.proofs.OctetLaws.{AreOctets-drop}
use Rattle.ipfix_octets.specs.Variable.{IsVarText, varlen_at}
use Rattle.ipfix_octets.proofs.VariableLaws.{varlen_at-found, varlen_at-only, shows_value, text_ends}
use Rattle.sequences.specs.Options.{◌>>=◌}
use Rattle.sequences.proofs.OptionLaws.{bind_some}
use Rattle.std.proofs.lemmas.Option.{same_Some}
use Rattle.ipfix_template.specs.declared.field.FieldSpec.{FieldSpec}
use Rattle.ipfix_template.specs.Template.{is_variable, least_octets}
use Rattle.ipfix_template.specs.Values.{IsText, Splits, span_at, values_at}

-- ---- one field

abbrev span_by : Bool → ℕ → List ℕ → Option (ℕ × ℕ)
span_by variable len octets = cond variable (varlen_at octets) (cond (leb len (length octets)) (Some (0, len)) None)

abbrev IsTextBy : Bool → ℕ → List ℕ → List ℕ → Type 0
IsTextBy variable len text value = MatchBool variable (IsVarText text value) ((text ≡ value) × (length value ≡ len))

found_by : (variable : Bool) (len : ℕ) (octets : List ℕ) → AreOctets octets → (span : ℕ × ℕ) → span_by variable len octets ≡ Some span → IsTextBy variable len (take (span.0 + span.1) octets) (take span.1 (drop span.0 octets))
found_by true len octets fits span e = varlen_at-found octets fits span e
found_by false len octets fits span e = fixed (leb len (length octets)) refl e where
  fixed : (enough : Bool) → leb len (length octets) ≡ enough → cond enough (Some (0, len)) None ≡ Some span → (take (span.0 + span.1) octets ≡ take span.1 (drop span.0 octets)) × (length (take span.1 (drop span.0 octets)) ≡ len)
  fixed false is same = absurd cc
  fixed true is same =
      let here : span ≡ (0, len) = cc in
      rw here (ap (λ n. take n octets) (omega arith), length-take-le len octets (leb-true _ _ is))

-- what is found of a field is a text of its value
pub span_at-found : (f : FieldSpec) (octets : List ℕ) → AreOctets octets → (span : ℕ × ℕ) → span_at f octets ≡ Some span → IsText f (take (span.0 + span.1) octets) (take span.1 (drop span.0 octets))
span_at-found f octets fits span e = found_by (is_variable f) f.length octets fits span e

-- a value that stands at the front of octets: it is found there
pub record Finds (span : Option (ℕ × ℕ)) (octets text value : List ℕ) : Type 0 where
  pub start : ℕ
  pub at : span ≡ Some (start, length value)
  pub ends : start + length value ≡ length text
  pub shown : take (length value) (drop start octets) ≡ value

only_by : (variable : Bool) (len : ℕ) (text value rest : List ℕ) → IsTextBy variable len text value → Finds (span_by variable len (text ++ rest)) (text ++ rest) text value
only_by true len text value rest is =
    let e = text_ends text value is in
    record {
      start = length text - length value;
      at = varlen_at-only text value rest is;
      ends = omega (arith, ap length e.1, length-append e.0 value);
      shown = shows_value text value rest is;
    }
only_by false len text value rest is =
    let enough : leb len (length (text ++ rest)) ≡ true = le-leb _ _ (omega (arith, length-append text rest, ap length is.0, is.1)) in
    record {
      start = 0;
      at = rw (enough, is.1) refl;
      ends = omega (arith, ap length is.0);
      shown = rw is.0 (take_at value rest (length value) refl);
    }

pub span_at-only : (f : FieldSpec) (text value rest : List ℕ) → IsText f text value → Finds (span_at f (text ++ rest)) (text ++ rest) text value
span_at-only f text value rest is = only_by (is_variable f) f.length text value rest is

-- ---- all fields

abbrev pub found_values : List (List ℕ) × List ℕ → Option (List (List ℕ) × List ℕ)
found_values found = Some found

-- what is found is split so by the fields
pub values_at-found : (fs : List FieldSpec) (octets : List ℕ) → AreOctets octets → (found : List (List ℕ) × List ℕ) → values_at fs octets ≡ Some found → (text : List ℕ) × (octets ≡ text ++ found.1) × Splits fs text found.0
unfolding values_at
values_at-found [] octets fits found e =
    let P : List (List ℕ) × List ℕ → Type 0 = λ p. (text : List ℕ) × (octets ≡ text ++ p.1) × Splits [] text p.0 in
    subst P (same_Some {A = List (List ℕ) × List ℕ} ([], octets) found e) ([], refl, refl)
values_at-found (f ∷ fs) octets fits found e =
    let first = bind_some (span_at f octets) (λ span. values_at fs (drop (span.0 + span.1) octets) >>= λ o. Some (take span.1 (drop span.0 octets) ∷ o.0, o.1)) found e in
    let span = first.0 in
    let second = bind_some (values_at fs (drop (span.0 + span.1) octets)) (λ o. Some (take span.1 (drop span.0 octets) ∷ o.0, o.1)) found first.2 in
    let others = second.0 in
    let more = values_at-found fs (drop (span.0 + span.1) octets) (AreOctets-drop (span.0 + span.1) octets fits) others second.1 in
    let front = take (span.0 + span.1) octets in
    let is-text = span_at-found f octets fits span first.1 in
    let parts : octets ≡ (front ++ more.0) ++ others.1 = sym {a = front ++ drop (span.0 + span.1) octets} {b = octets} (take-append-drop (span.0 + span.1) octets) ∙ ap (λ (t : List ℕ). front ++ t) more.1 ∙ sym (append_assoc front more.0 others.1) in
    let P : List (List ℕ) × List ℕ → Type 0 = λ p. (text : List ℕ) × (octets ≡ text ++ p.1) × Splits (f ∷ fs) text p.0 in
    subst P (same_Some {A = List (List ℕ) × List ℕ} (take span.1 (drop span.0 octets) ∷ others.0, others.1) found second.2) (front ++ more.0, parts, (front, more.0, refl, is-text, more.2))

-- what is split so is found, whatever follows
pub values_at-only : (fs : List FieldSpec) (text rest : List ℕ) (values : List (List ℕ)) → Splits fs text values → values_at fs (text ++ rest) ≡ Some (values, rest)
unfolding values_at
values_at-only [] text rest [] is = ap (λ (t : List ℕ). found_values ([], t ++ rest)) is
values_at-only [] text rest (v ∷ vs) is = absurd is
values_at-only (f ∷ fs) text rest [] is = absurd is
values_at-only (f ∷ fs) text rest (v ∷ vs) is =
    let front = is.0 in
    let back = is.1 in
    let joined : text ++ rest ≡ front ++ (back ++ rest) = ap (λ (t : List ℕ). t ++ rest) is.2 ∙ append_assoc front back rest in
    let at = span_at-only f front v (back ++ rest) is.3 in
    let after : drop (at.start + length v) (front ++ (back ++ rest)) ≡ back ++ rest = rw at.ends (drop_at front (back ++ rest) (length front) refl) in
    rw (joined, at.at, after, values_at-only fs back rest vs is.4, at.shown) refl

-- two splits of the same octets, from the front, are one
pub one_split : (fs : List FieldSpec) (octets a b x y : List ℕ) (v w : List (List ℕ)) → octets ≡ a ++ x → octets ≡ b ++ y → Splits fs a v → Splits fs b w → (a ≡ b) × (v ≡ w)
one_split fs octets a b x y v w first second is-a is-b =
    let joined : a ++ x ≡ b ++ y = sym first ∙ second in
    let same = same_Some {A = List (List ℕ) × List ℕ} (v, x) (w, y) (sym (values_at-only fs a x v is-a) ∙ ap (values_at fs) joined ∙ values_at-only fs b y w is-b) in
    let rests : x ≡ y = ap (λ (p : List (List ℕ) × List ℕ). p.1) same in
    let len : length a ≡ length b = omega (arith, ap length joined, length-append a x, length-append b y, ap length rests) in
    (sym (take_at a x (length a) refl) ∙ ap (take (length a)) joined ∙ take_at b y (length a) (sym len), ap (λ (p : List (List ℕ) × List ℕ). p.0) same)

some_text : (text value : List ℕ) → IsVarText text value → 1 ≤ length text
some_text text value (inl s) = omega (arith, ap length s.1)
some_text text value (inr s) = omega (arith, ap length s.2)

-- a text is no shorter than its field says
least_of : (variable : Bool) (len : ℕ) (text value : List ℕ) → IsTextBy variable len text value → cond variable 1 len ≤ length text
least_of true len text value is =
    some_text text value is
least_of false len text value is = omega (arith, ap length is.0)

-- what is split has as many octets as the shortest record
pub Splits-least : (fs : List FieldSpec) (text : List ℕ) (values : List (List ℕ)) → Splits fs text values → sum_by least_octets fs ≤ length text
Splits-least [] text values is = omega arith
Splits-least (f ∷ fs) text [] is = absurd is
Splits-least (f ∷ fs) text (v ∷ vs) is =
    let first = least_of (is_variable f) f.length is.0 v is.3 in
    let others = Splits-least fs is.1 vs is.4 in
    let whole : sum_by least_octets (f ∷ fs) ≡ least_octets f + sum_by least_octets fs = sum_by-cons least_octets f fs in
    omega (arith, whole, first, others, ap length is.2, length-append is.0 is.1)
