-- How far the record at the front of octets reaches, and whether it is the shortest text of its values.
use Rattle.std.proofs.Common.{inl, inr, ◌≡◌, ℕ, ◌+◌, ◌*◌, ◌/◌, ◌%◌, ◌<◌, ◌≤◌, Bool, true, false, cond, eqb, ltb, List, [], ◌∷◌, ◌++◌, length, take, drop, get_or, Option, Some, None, refl, sym, ap, subst, ◌∙◌, arith, length-append, length-drop}
use Rattle.std.specs.Prelude.{◌&&◌, ◌↔◌, MatchBool}
use Rattle.std.specs.Int.{byte_at}
use Rattle.std.proofs.Math.Seq.{take-add}
use Rattle.std.proofs.Math.Bool.{and_assoc}
use Rattle.std.proofs.lemmas.Bool.{eqb-true, eq-eqb, and_parts, and_from, lt-ltb}
use Rattle.std.proofs.lemmas.List.{drop-drop, drop_all, length-take-le, take_at}
use Rattle.std.proofs.lemmas.Option.{same_Some}
use Rattle.sequences.specs.Octets.{be_value, be_octets, AreOctets}
use Rattle.sequences.specs.Options.{◌>>=◌}
use Rattle.sequences.proofs.ListLaws.{drop_read}
use Rattle.sequences.proofs.OptionLaws.{bind_some}
use Rattle.sequences.proofs.OctetLaws.{length-be_octets, byte_at-pow, AreOctets-drop, AreOctets-take}
use Rattle.ipfix_octets.specs.Variable.{IsVarText, shortest_text}
use Rattle.ipfix_template.specs.Sequence.{End, Fault, Next}
use Rattle.ipfix_template.specs.declared.field.FieldSpec.{FieldSpec}
use Rattle.ipfix_template.specs.declared.template.Template.{Template}
use Rattle.ipfix_template.specs.Template.{is_variable, shortest_record}
use Rattle.ipfix_template.specs.Values.{IsText, span_at, values_at, values_found, values_in, record_front, value_text, record_text, value_start, extent_at}
use Rattle.ipfix_template.proofs.SplitLaws.{span_at-found, found_values}
use Rattle.ipfix_template.proofs.WrittenLaws.{fronts}

-- ---- one value

-- the octets that a value takes in its shortest text
long_text : (value : List ℕ) → length (255 ∷ (be_octets 2 (length value) ++ value)) ≡ 3 + length value
long_text value = omega (arith, length-append (be_octets 2 (length value)) value, length-be_octets 2 (length value))

length_by : (short : Bool) (value : List ℕ) → length (cond short (length value ∷ value) (255 ∷ (be_octets 2 (length value) ++ value))) ≡ cond short 1 3 + length value
length_by true value = omega arith
length_by false value = long_text value

length_of : (variable : Bool) (value : List ℕ) → length (cond variable (shortest_text value) value) ≡ cond variable (cond (ltb (length value) 255) 1 3) 0 + length value
length_of true value = length_by (ltb (length value) 255) value
length_of false value = omega arith

pub length-value_text : (f : FieldSpec) (value : List ℕ) → length (value_text f value) ≡ value_start f (length value) + length value
length-value_text f value = length_of (is_variable f) value

abbrev two : ℕ → ℕ → List ℕ
two a b = a ∷ b ∷ []

-- two octets are those of their number
two_octets : (a : List ℕ) → AreOctets a → length a ≡ 2 → a ≡ be_octets 2 (be_value a)
two_octets [] fits wide = absurd (omega arith)
two_octets (x ∷ []) fits wide = absurd (omega arith)
two_octets (x ∷ y ∷ z ∷ a) fits wide = absurd (omega arith)
two_octets (x ∷ y ∷ []) fits wide =
    let high : x < 256 = fits 0 in
    let low : y < 256 = fits 1 in
    let value = be_value (x ∷ y ∷ []) in
    let is : value ≡ x * 256 + y = omega arith in
    let first : x ≡ value / 256 % 256 = omega (arith, is, high, low) in
    let second : y ≡ value % 256 = omega (arith, is, high, low) in
    ap (λ (a : ℕ). two a y) (first ∙ sym (byte_at-pow 1 value)) ∙ ap (two (byte_at 1 value)) second

-- what a text of a value is beside the shortest: no shorter, and of the same octets if it isn't longer
abbrev IsLeast : List ℕ → List ℕ → Type 0
IsLeast text shortest = (length shortest ≤ length text) × (length text ≡ length shortest → text ≡ shortest)

var_least : (text value : List ℕ) → AreOctets text → IsVarText text value → IsLeast text (shortest_text value)
var_least text value fits (inl s) =
    let short : ltb (length value) 255 ≡ true = lt-ltb _ _ s.0 in
    rw short (omega (arith, ap length s.1), λ _. s.1)
var_least text value fits (inr s) = by_length (ltb (length value) 255) refl where
  wide : length text ≡ 3 + length value
  wide = omega (arith, ap length s.2, length-append s.0 value, s.1.wide)

  by_length : (b : Bool) → ltb (length value) 255 ≡ b → IsLeast text (cond b (length value ∷ value) (255 ∷ (be_octets 2 (length value) ++ value)))
  by_length true is = (omega (arith, wide), λ e. absurd (omega (arith, wide, e)))
  by_length false is =
      let is-front : s.0 ≡ take 2 (drop 1 text) = sym (take_at s.0 value 2 s.1.wide) ∙ ap (λ (t : List ℕ). take 2 (drop 1 t)) (sym s.2) in
      let octets : AreOctets s.0 = subst AreOctets (sym is-front) (AreOctets-take 2 (drop 1 text) (AreOctets-drop 1 text fits)) in
      let number : s.0 ≡ be_octets 2 (length value) = two_octets s.0 octets s.1.wide ∙ ap (be_octets 2) s.1.value in
      (omega (arith, wide, long_text value), λ _. s.2 ∙ ap (λ (a : List ℕ). 255 ∷ (a ++ value)) number)

least_by : (variable : Bool) (len : ℕ) (text value : List ℕ) → AreOctets text → MatchBool variable (IsVarText text value) ((text ≡ value) × (length value ≡ len)) → IsLeast text (cond variable (shortest_text value) value)
least_by true len text value fits is = var_least text value fits is
least_by false len text value fits is = (omega (arith, ap length is.0), λ _. is.0)

pub text_least : (f : FieldSpec) (text value : List ℕ) → AreOctets text → IsText f text value → IsLeast text (value_text f value)
text_least f text value fits is = least_by (is_variable f) f.length text value fits is

-- ---- all values

-- the values that are found reach so far, and what they reach is their shortest text exactly if it is said so
pub record Reaches (fs : List FieldSpec) (octets : List ℕ) (extent : ℕ × Bool) : Type 0 where
  pub values : List (List ℕ)
  pub at : values_at fs octets ≡ Some (values, drop extent.0 octets)
  pub least : length (record_text fs values) ≤ extent.0
  pub shortest : (extent.1 ≡ true) ↔ (take extent.0 octets ≡ record_text fs values)

one_reached : (f : FieldSpec) (fs : List FieldSpec) (octets : List ℕ) → AreOctets octets → (start len : ℕ) (others : ℕ × Bool) → start + len + others.0 ≤ length octets → span_at f octets ≡ Some (start, len) → Reaches fs (drop (start + len) octets) others
    → Reaches (f ∷ fs) octets (start + len + others.0, eqb start (value_start f len) && others.1)
unfolding values_at
one_reached f fs octets fits start len others low found more =
    let n = start + len in
    let value = take len (drop start octets) in
    let text = take n octets in
    let least = text_least f text value (AreOctets-take n octets fits) (span_at-found f octets fits (start, len) found) in
    let wide : length text ≡ n = length-take-le n octets (omega (arith, low)) in
    let value-wide : length value ≡ len = length-take-le len (drop start octets) (omega (arith, low, length-drop start octets)) in
    let size : length (value_text f value) ≡ value_start f len + len = length-value_text f value ∙ ap (λ (k : ℕ). value_start f k + k) value-wide in
    let whole : length (take (n + others.0) octets) ≡ n + others.0 = length-take-le (n + others.0) octets low in
    let front : take (n + others.0) octets ≡ text ++ take others.0 (drop n octets) = take-add n others.0 octets in
    let joined : length (value_text f value ++ record_text fs more.values) ≡ length (value_text f value) + length (record_text fs more.values) = length-append (value_text f value) (record_text fs more.values) in
    record {
      values = value ∷ more.values;
      at = rw (found, more.at) (ap (λ (r : List ℕ). found_values (value ∷ more.values, r)) (drop-drop others.0 n octets));
      least = omega (arith, least.0, wide, more.least, joined);
      shortest = (
        λ e.
            let parts = and_parts (eqb start (value_start f len)) others.1 e in
            let starts = eqb-true start (value_start f len) parts.0 in
            let first = least.1 (omega (arith, wide, size, starts)) in
            front ∙ ap (λ (t : List ℕ). t ++ take others.0 (drop n octets)) first ∙ ap (λ (t : List ℕ). value_text f value ++ t) (more.shortest.0 parts.1),
        λ e.
            let both = fronts text (value_text f value) (take others.0 (drop n octets)) (record_text fs more.values) (omega (arith, ap length e, whole, joined, least.0, wide, more.least)) (sym front ∙ e) in
            and_from (eqb start (value_start f len)) others.1 (eq-eqb start (value_start f len) (omega (arith, ap length both.0, wide, size))) (more.shortest.1 both.1),
      );
    }

abbrev Reached : List FieldSpec → List ℕ → ℕ × Bool → Type 0
Reached fs octets extent = Reaches fs octets extent

pub reaches : (fs : List FieldSpec) (octets : List ℕ) → AreOctets octets → (extent : ℕ × Bool) → extent.0 ≤ length octets → extent_at fs octets ≡ Some extent → Reaches fs octets extent
unfolding extent_at values_at
reaches [] octets fits extent low e =
    subst (Reached [] octets) (same_Some {A = ℕ × Bool} (0, true) extent e) (record { values = []; at = refl; least = omega arith; shortest = (λ _. refl, λ _. refl) })
reaches (f ∷ fs) octets fits extent low e =
    let first = bind_some (span_at f octets) (λ span. extent_at fs (drop (span.0 + span.1) octets) >>= λ o. Some (span.0 + span.1 + o.0, eqb span.0 (value_start f span.1) && o.1)) extent e in
    let span = first.0 in
    let second = bind_some (extent_at fs (drop (span.0 + span.1) octets)) (λ o. Some (span.0 + span.1 + o.0, eqb span.0 (value_start f span.1) && o.1)) extent first.2 in
    let others = second.0 in
    let whole = same_Some {A = ℕ × Bool} (span.0 + span.1 + others.0, eqb span.0 (value_start f span.1) && others.1) extent second.2 in
    let size : span.0 + span.1 + others.0 ≤ length octets = omega (arith, low, ap (λ (m : ℕ × Bool). m.0) whole) in
    let more = reaches fs (drop (span.0 + span.1) octets) (AreOctets-drop (span.0 + span.1) octets fits) others (omega (arith, size, length-drop (span.0 + span.1) octets)) second.1 in
    subst (Reached (f ∷ fs) octets) whole (one_reached f fs octets fits span.0 span.1 others size first.1 more)

abbrev extent_with : ℕ → Bool → Option (ℕ × Bool)
extent_with used short = Some (used, short)

others_none : (o : Option (ℕ × Bool)) (n : ℕ) (b : Bool) → (o >>= λ m. extent_with (n + m.0) (b && m.1)) ≡ None → o ≡ None
others_none None n b e = refl
others_none (Some m) n b e = absurd cc

none_by : (f : FieldSpec) (fs : List FieldSpec) (octets : List ℕ) (span : Option (ℕ × ℕ)) → ((rest : List ℕ) → extent_at fs rest ≡ None → values_at fs rest ≡ None)
    → (span >>= λ s. extent_at fs (drop (s.0 + s.1) octets) >>= λ o. extent_with (s.0 + s.1 + o.0) (eqb s.0 (value_start f s.1) && o.1)) ≡ None
    → (span >>= λ s. values_at fs (drop (s.0 + s.1) octets) >>= λ o. found_values (take s.1 (drop s.0 octets) ∷ o.0, o.1)) ≡ None
none_by f fs octets None rest e = refl
none_by f fs octets (Some s) rest e =
    rw (rest (drop (s.0 + s.1) octets) (others_none (extent_at fs (drop (s.0 + s.1) octets)) (s.0 + s.1) (eqb s.0 (value_start f s.1)) e)) refl

-- what reaches past the end has no values there
pub reaches_past : (fs : List FieldSpec) (octets : List ℕ) → extent_at fs octets ≡ None → values_at fs octets ≡ None
unfolding extent_at values_at
reaches_past [] octets e = absurd cc
reaches_past (f ∷ fs) octets e = none_by f fs octets (span_at f octets) (reaches_past fs) e

-- ---- what is measured

pub record_measured : (t : Template) (octets : List ℕ) → AreOctets octets → (used : ℕ) (short : Bool) → ltb (length octets) (shortest_record t) ≡ false → used ≤ length octets → extent_at t.fields octets ≡ Some (used, short)
    → (record_front t octets ≡ Next (values_in t.fields octets ∷ []) (drop used octets)) × (used ≤ length octets) × ((short ≡ true) ↔ (take used octets ≡ record_text t.fields (values_in t.fields octets)))
unfolding record_front values_in
record_measured t octets fits used short long low e =
    let r = reaches t.fields octets fits (used, short) low e in
    let same : r.values ≡ values_in t.fields octets = sym (ap values_found r.at) in
    let shortest = subst (λ (vs : List (List ℕ)). (short ≡ true) ↔ (take used octets ≡ record_text t.fields vs)) same r.shortest in
    (rw (long, r.at) refl, low, shortest)

pub overrun_measured : (t : Template) (octets : List ℕ) → ltb (length octets) (shortest_record t) ≡ false → extent_at t.fields octets ≡ None → record_front t octets ≡ Fault tt
unfolding record_front
overrun_measured t octets long e = rw (long, reaches_past t.fields octets e) refl

pub padding_measured : (t : Template) (octets : List ℕ) → ltb (length octets) (shortest_record t) ≡ true → record_front t octets ≡ End
unfolding record_front
padding_measured t octets short = rw short refl

-- ---- one field after another

-- the extent of the fields before, and of those that are left
abbrev pub with_extent : ℕ → Bool → Option (ℕ × Bool) → Option (ℕ × Bool)
with_extent used short None = None
with_extent used short (Some m) = Some (used + m.0, short && m.1)

pub none_measured : (whole : Option (ℕ × Bool)) → with_extent 0 true whole ≡ whole
none_measured None = refl
none_measured (Some m) = ap (λ (n : ℕ). extent_with n m.1) (omega arith)

pushed : (used n : ℕ) (short b : Bool) (o : Option (ℕ × Bool)) → with_extent (used + n) (short && b) o ≡ with_extent used short (o >>= λ m. Some (n + m.0, b && m.1))
pushed used n short b None = refl
pushed used n short b (Some m) =
    ap (λ (k : ℕ). extent_with k (short && b && m.1)) (omega arith) ∙ ap (extent_with (used + (n + m.0))) (and_assoc short b m.1)

at_field : (fs : List FieldSpec) (f : FieldSpec) (octets : List ℕ) (start len : ℕ) → span_at f octets ≡ Some (start, len) → extent_at (f ∷ fs) octets ≡ (extent_at fs (drop (start + len) octets) >>= λ o. Some (start + len + o.0, eqb start (value_start f len) && o.1))
unfolding extent_at
at_field fs f octets start len at = rw at refl

no_field : (fs : List FieldSpec) (f : FieldSpec) (octets : List ℕ) → span_at f octets ≡ None → extent_at (f ∷ fs) octets ≡ None
unfolding extent_at
no_field fs f octets at = rw at refl

-- one field more
pub one_measured : (fs : List FieldSpec) (f : FieldSpec) (octets rest : List ℕ) (i used start len : ℕ) (short : Bool) (whole : Option (ℕ × Bool)) → i < length fs → f ≡ get_or fs i f → rest ≡ drop used octets → span_at f rest ≡ Some (start, len)
    → with_extent used short (extent_at (drop i fs) (drop used octets)) ≡ whole
    → with_extent (used + (start + len)) (short && eqb start (value_start f len)) (extent_at (drop (i + 1) fs) (drop (used + (start + len)) octets)) ≡ whole
one_measured fs f octets rest i used start len short whole lt is left at e =
    let there : span_at f (drop used octets) ≡ Some (start, len) = ap (span_at f) (sym left) ∙ at in
    let others = extent_at (drop (i + 1) fs) (drop (start + len) (drop used octets)) in
    let here : extent_at (drop i fs) (drop used octets) ≡ (others >>= λ o. Some (start + len + o.0, eqb start (value_start f len) && o.1)) =
    ap (λ g. extent_at g (drop used octets)) (drop_read fs i f lt is) ∙ at_field (drop (i + 1) fs) f (drop used octets) start len there in
    ap (λ (r : List ℕ). with_extent (used + (start + len)) (short && eqb start (value_start f len)) (extent_at (drop (i + 1) fs) r)) (sym (drop-drop (start + len) used octets))
    ∙ pushed used (start + len) short (eqb start (value_start f len)) others ∙ ap (with_extent used short) (sym here) ∙ e

-- a field whose value isn't there
pub no_more_measured : (fs : List FieldSpec) (f : FieldSpec) (octets rest : List ℕ) (i used : ℕ) (short : Bool) (whole : Option (ℕ × Bool)) → i < length fs → f ≡ get_or fs i f → rest ≡ drop used octets → span_at f rest ≡ None
    → with_extent used short (extent_at (drop i fs) (drop used octets)) ≡ whole → whole ≡ None
no_more_measured fs f octets rest i used short whole lt is left at e =
    sym e ∙ ap (with_extent used short) (ap (λ g. extent_at g (drop used octets)) (drop_read fs i f lt is) ∙ no_field (drop (i + 1) fs) f (drop used octets) (ap (span_at f) (sym left) ∙ at))

last_by : (used : ℕ) (short : Bool) → extent_with (used + 0) (short && true) ≡ extent_with used short
last_by used true = ap (λ (k : ℕ). extent_with k true) (omega arith)
last_by used false = ap (λ (k : ℕ). extent_with k false) (omega arith)

-- all fields were measured
pub all_measured : (fs : List FieldSpec) (octets : List ℕ) (i used : ℕ) (short : Bool) (whole : Option (ℕ × Bool)) → length fs ≤ i → with_extent used short (extent_at (drop i fs) (drop used octets)) ≡ whole → Some (used, short) ≡ whole
unfolding extent_at
all_measured fs octets i used short whole le e =
    let none : drop i fs ≡ [] = drop_all i fs le in
    sym (last_by used short) ∙ ap (λ g. with_extent used short (extent_at g (drop used octets))) (sym none) ∙ e
