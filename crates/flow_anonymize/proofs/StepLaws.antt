-- Steps show of the text of values what is left of them.
use Rattle.std.proofs.Common.{◌≡◌, ◌⊎◌, ◌==◌, ℕ, zero, suc, ◌+◌, ◌-◌, ◌*◌, ◌/◌, ◌%◌, ◌<◌, ◌≤◌, Bool, true, false, not, cond, ltb, leb, min, List, [], ◌∷◌, ◌++◌, length, map, take, drop, get_or, Option, Some, inl, inr, refl, sym, ap, subst, ◌∙◌, arith, append_assoc, append-nil, length-append, length-drop}
use Rattle.std.specs.Prelude.{unwrap_or}
use Rattle.std.specs.List.{zip}
use Rattle.std.proofs.lemmas.Bool.{and_parts, cases_lt, eqb-true, leb-true, leb-false}
use Rattle.std.proofs.lemmas.List.{drop-drop, drop_at, take_at, take_all, drop_all, length-take-le, take-append-le}
use Rattle.sequences.specs.Octets.{be_octets, AreOctets}
use Rattle.sequences.proofs.OctetLaws.{length-be_octets, AreOctets-rest, AreOctets-take, AreOctets-drop}
use Rattle.sequences.proofs.ListLaws.{drop_read}
use Rattle.ipfix_octets.specs.Variable.{shortest_text, varlen_at}
use Rattle.flow_prefix.specs.Bits.{truncated, kept_octets}
use Rattle.flow_prefix.proofs.BitLaws.{kept_from, kept_from-octets}
use Rattle.ipfix_template.specs.declared.field.FieldSpec.{FieldSpec}
use Rattle.ipfix_template.specs.Template.{is_variable}
use Rattle.ipfix_template.specs.Values.{span_at, fits_field, fit_fields, value_text, record_text}
use Rattle.ipfix_template.proofs.SplitLaws.{span_at-only}
use Rattle.ipfix_template.proofs.WrittenLaws.{value_text-is}
use Rattle.ipfix_template.proofs.Encoding.{fit_fields-length}
use Rattle.policy_judge.specs.declared.verdict.ElementAction.{ElementAction}
use Rattle.policy_judge.specs.declared.verdict.ElementAction.TheVariants as on_field
use Rattle.policy_judge.specs.declared.verdict.ElementVerdict.{ElementVerdict}
use Rattle.flow_anonymize.specs.declared.change.Change.{Change}
use Rattle.flow_anonymize.specs.declared.change.Change.TheVariants as on_value
use Rattle.flow_anonymize.specs.Changes.{changed_value}
use Rattle.flow_anonymize.specs.declared.stretch.Stretch.{Stretch}
use Rattle.flow_anonymize.specs.declared.steps.Step.{Step}
use Rattle.flow_anonymize.specs.declared.steps.Step.TheVariants.{Octets, SkipVariable, Changed}
use Rattle.flow_anonymize.specs.Texts.{shown_text, shown_texts}
use Rattle.flow_anonymize.specs.Stretches.{stretch, zeroed, stretch_shown, behind_of, shown_in, IsJoined}
use Rattle.flow_anonymize.specs.Steps.{variable_span, variable_octets, changed_text, shown_at, behind, shown_by, step_of, whole_octets, ShowAlike, AreSteps}
use Rattle.flow_anonymize.proofs.TextLaws.{texts_are}

-- ---- one step in place of two

pub alike_behind : (front some others : List Step) → ShowAlike some others → ShowAlike (front ++ some) (front ++ others)
alike_behind [] some others same octets = same octets
alike_behind (step ∷ front) some others same octets = ap (λ t. shown_at step octets ++ t) (alike_behind front some others same (behind step octets))

-- a stretch of no octets shows nothing
pub nothing_first : (none : Stretch) (last next : Step) → last ≡ Octets none → none ≡ stretch 0 0 0 → (after : List Step) → ShowAlike (next ∷ after) (last ∷ next ∷ after)
nothing_first none last next is empty = rw (is, empty) (λ after octets. refl)

pub nothing_behind : (none : Stretch) (last next : Step) → next ≡ Octets none → none ≡ stretch 0 0 0 → (after : List Step) → ShowAlike (last ∷ after) (last ∷ next ∷ after)
nothing_behind none last next is empty = rw (is, empty) (λ after octets. refl)

join_both : (both one next : Stretch) → IsJoined both one next → (after : List Step) → ShowAlike (Octets both ∷ after) (Octets one ∷ Octets next ∷ after)
join_both both one next is after octets =
    ap (λ (t : List ℕ). t ++ shown_by after (behind_of both octets)) (is.shown octets)
    ∙ ap (λ (o : List ℕ). (stretch_shown one octets ++ stretch_shown next (behind_of one octets)) ++ shown_by after o) (is.behind octets)
    ∙ append_assoc (stretch_shown one octets) (stretch_shown next (behind_of one octets)) (shown_by after (behind_of next (behind_of one octets)))

pub steps_joined : (both one back : Stretch) (last next : Step) → last ≡ Octets one → next ≡ Octets back → IsJoined both one back → (after : List Step) → ShowAlike (Octets both ∷ after) (last ∷ next ∷ after)
steps_joined both one back last next is_last is_next is = rw (is_last, is_next) (join_both both one back is)

-- steps that are all over stretches show what these show
pub shown_stretches : (stretches : List Stretch) (octets : List ℕ) → shown_in stretches octets ≡ shown_by (map Octets stretches) octets
shown_stretches [] octets = refl
shown_stretches (s ∷ stretches) octets = ap (λ (t : List ℕ). stretch_shown s octets ++ t) (shown_stretches stretches (behind_of s octets))

-- ---- the first bits of a value, where they fill octets

kept_step : (k x : ℕ) (xs : List ℕ) → kept_from (8 * suc k) (x ∷ xs) ≡ x ∷ kept_from (8 * k) xs
kept_step k x xs =
    let n = 8 * suc k in
    let eight : min n 8 ≡ 8 = omega arith in
    let left : n - min n 8 ≡ 8 * k = omega arith in
    let same : truncated 8 8 x ≡ x = omega arith in
    ap (λ (m : ℕ). truncated 8 m x ∷ kept_from (n - min n 8) xs) eight ∙ ap (λ (y : ℕ). y ∷ kept_from (n - min n 8) xs) same ∙ ap (λ (m : ℕ). x ∷ kept_from m xs) left

kept_none : (xs : List ℕ) → AreOctets xs → kept_from 0 xs ≡ zeroed (length xs)
kept_none [] all = refl
kept_none (x ∷ xs) all =
    let small : x < 256 = all 0 in
    let none : truncated 8 0 x ≡ 0 = omega (arith, small) in
    ap (λ (y : ℕ). y ∷ kept_from 0 xs) none ∙ ap (λ (ys : List ℕ). 0 ∷ ys) (kept_none xs (AreOctets-rest x xs all))

-- the first octets stay, and the others are 0
kept_whole : (k : ℕ) (xs : List ℕ) → AreOctets xs → kept_from (8 * k) xs ≡ take k xs ++ zeroed (length xs - k)
kept_whole zero xs all =
    let whole : length xs - 0 ≡ length xs = omega arith in
    kept_none xs all ∙ ap zeroed (sym whole)
kept_whole (suc k) [] all = let none : length {A = ℕ} [] - suc k ≡ 0 = omega arith in ap zeroed (sym none)
kept_whole (suc k) (x ∷ xs) all =
    let left : length (x ∷ xs) - suc k ≡ length xs - k = omega arith in
    kept_step k x xs ∙ ap (λ (ys : List ℕ). x ∷ ys) (kept_whole k xs (AreOctets-rest x xs all)) ∙ ap (λ (n : ℕ). x ∷ (take k xs ++ zeroed n)) (sym left)

-- the same where no more octets are taken than there are
kept_octets_whole : (bits : ℕ) (v : List ℕ) → AreOctets v → bits % 8 ≡ 0 → kept_octets bits v ≡ take (min (length v) (bits / 8)) v ++ zeroed (length v - min (length v) (bits / 8))
kept_octets_whole bits v all even =
    let k = bits / 8 in
    let eighths : bits ≡ 8 * k = omega (arith, even) in
    let left : length v - k ≡ length v - min (length v) k = omega arith in
    sym (kept_from-octets bits v all) ∙ ap (λ (n : ℕ). kept_from n v) eighths ∙ kept_whole k v all ∙ ap (λ (n : ℕ). take k v ++ zeroed n) left ∙ ap (λ (xs : List ℕ). xs ++ zeroed (length v - min (length v) k)) (fewer k)
  where
    fewer : (k : ℕ) → take k v ≡ take (min (length v) k) v
    fewer k = by (cases_lt k (length v)) where
      by : (k < length v) ⊎ (length v ≤ k) → take k v ≡ take (min (length v) k) v
      by (inl less) = let e : min (length v) k ≡ k = omega (arith, less) in ap (λ (n : ℕ). take n v) (sym e)
      by (inr more) = let e : min (length v) k ≡ length v = omega (arith, more) in take_all k v more ∙ sym (take_all (length v) v (omega arith)) ∙ ap (λ (n : ℕ). take n v) (sym e)

-- ---- one field

-- the length octets before a value
head_of : ℕ → List ℕ
head_of n = cond (ltb n 255) (n ∷ []) (255 ∷ be_octets 2 n)

head_by : (short : Bool) (n : ℕ) (v : List ℕ) → cond short (n ∷ v) (255 ∷ (be_octets 2 n ++ v)) ≡ cond short (n ∷ []) (255 ∷ be_octets 2 n) ++ v
head_by true n v = refl
head_by false n v = refl

has_head : (v : List ℕ) → shortest_text v ≡ head_of (length v) ++ v
unfolding head_of
has_head v = head_by (ltb (length v) 255) (length v) v

-- the value of variable length that stands at the front
record Stands (v rest : List ℕ) : Type 0 where
  span : variable_span (shortest_text v ++ rest) ≡ (length (head_of (length v)), length v)
  octets : variable_octets (shortest_text v ++ rest) ≡ length (shortest_text v)

span_ends : (v : List ℕ) (start : ℕ) → start + length v ≡ length (shortest_text v) → start ≡ length (head_of (length v))
span_ends v start ends = omega (arith, ends, ap length (has_head v), length-append (head_of (length v)) v)

stands : (f : FieldSpec) (v rest : List ℕ) → is_variable f ≡ true → fits_field f v ≡ true → Stands v rest
stands f v rest variable fits =
    let as_text : value_text f v ≡ shortest_text v = ap (λ b. cond b (shortest_text v) v) variable in
    let found = span_at-only f (value_text f v) v rest (value_text-is f v fits) in
    let here : varlen_at (shortest_text v ++ rest) ≡ Some (found.start, length v) =
    ap (λ t. varlen_at (t ++ rest)) (sym as_text) ∙ sym (at_variable f (value_text f v ++ rest) variable) ∙ found.at in
    let start : found.start ≡ length (head_of (length v)) = span_ends v found.start (found.ends ∙ ap length as_text) in
    let span : variable_span (shortest_text v ++ rest) ≡ (found.start, length v) = ap (λ (o : Option (ℕ × ℕ)). unwrap_or o (0, 0)) here in
    record {
      span = span ∙ ap (as_span (length v)) start;
      octets = ap sum_of span ∙ found.ends ∙ ap length as_text;
    } where
      at_variable : (f : FieldSpec) (octets : List ℕ) → is_variable f ≡ true → span_at f octets ≡ varlen_at octets
      at_variable f octets variable = rw variable refl

      as_span : ℕ → ℕ → ℕ × ℕ
      as_span len start = (start, len)

      sum_of : ℕ × ℕ → ℕ
      sum_of span = span.0 + span.1

changed_long : (change : Change) (v : List ℕ) → length (changed_value change v) ≡ length v
changed_long (on_value.Truncate bits) v = length-be_octets (length v) _
changed_long (on_value.Degrade seconds) v = length-be_octets (length v) _

changed_front : (change : Change) (head v rest : List ℕ) → changed_text change (length head, length v) ((head ++ v) ++ rest) ≡ head ++ changed_value change v
changed_front change head v rest = rw (append_assoc head v rest, take_at head (v ++ rest) (length head) refl, drop_at head (v ++ rest) (length head) refl, take_at v rest (length v) refl) refl

text_of_changed : (change : Change) (v : List ℕ) → shortest_text (changed_value change v) ≡ head_of (length v) ++ changed_value change v
text_of_changed change v = has_head (changed_value change v) ∙ ap (λ n. head_of n ++ changed_value change v) (changed_long change v)

-- the step for a field, at its value's text, shows what is to be shown of the value, and goes behind it
record Writes (f : FieldSpec) (v : List ℕ) (a : ElementAction) (rest : List ℕ) : Type 0 where
  shown : shown_at (step_of f a) (value_text f v ++ rest) ≡ shown_text f v a
  next : behind (step_of f a) (value_text f v ++ rest) ≡ rest

-- what stays of a value of fixed length, and as many 0 as there are octets behind
whole_shown : (v rest : List ℕ) (whole : ℕ) → whole ≤ length v → stretch_shown (stretch whole (length v - whole) 0) (v ++ rest) ≡ take whole v ++ zeroed (length v - whole)
whole_shown v rest whole within =
    let hidden : length (take (length v - whole) (drop whole (v ++ rest))) ≡ length v - whole =
    length-take-le (length v - whole) (drop whole (v ++ rest)) (omega (arith, length-drop whole (v ++ rest), length-append v rest, within)) in
    ap (λ (xs : List ℕ). xs ++ zeroed (length (take (length v - whole) (drop whole (v ++ rest))))) (take-append-le whole v rest within) ∙ ap (λ (n : ℕ). take whole v ++ zeroed n) hidden

whole_behind : (v rest : List ℕ) (whole : ℕ) → whole ≤ length v → behind_of (stretch whole (length v - whole) 0) (v ++ rest) ≡ rest
whole_behind v rest whole within =
    let all : whole + (length v - whole) ≡ length v = omega (arith, within) in
    drop-drop (length v - whole) whole (v ++ rest) ∙ ap (λ (n : ℕ). drop n (v ++ rest)) all ∙ drop_at v rest (length v) refl

fixed_truncated : (f : FieldSpec) (v rest : List ℕ) (bits : ℕ) (even : Bool) → (bits % 8 == 0) ≡ even → length v ≡ f.length → AreOctets v
    → shown_at (cond (not even) (Changed f.length (on_value.Truncate bits)) (whole_octets f.length (min f.length (bits / 8)))) (v ++ rest) ≡ kept_octets bits v
fixed_truncated f v rest bits false is long all = ap (changed_value (on_value.Truncate bits)) (take_at v rest f.length long)
fixed_truncated f v rest bits true is long all =
    let whole = min (length v) (bits / 8) in
    ap (λ (n : ℕ). stretch_shown (stretch (min n (bits / 8)) (n - min n (bits / 8)) 0) (v ++ rest)) (sym long)
    ∙ whole_shown v rest whole (omega arith) ∙ sym (kept_octets_whole bits v all (eqb-true (bits % 8) 0 is))

truncated_behind : (f : FieldSpec) (v rest : List ℕ) (bits : ℕ) (even : Bool) → length v ≡ f.length
    → behind (cond (not even) (Changed f.length (on_value.Truncate bits)) (whole_octets f.length (min f.length (bits / 8)))) (v ++ rest) ≡ rest
truncated_behind f v rest bits false long = drop_at v rest f.length long
truncated_behind f v rest bits true long =
    ap (λ (n : ℕ). behind_of (stretch (min n (bits / 8)) (n - min n (bits / 8)) 0) (v ++ rest)) (sym long) ∙ whole_behind v rest (min (length v) (bits / 8)) (omega arith)

fixed_writes : (f : FieldSpec) (v : List ℕ) (a : ElementAction) (rest : List ℕ) → is_variable f ≡ false → length v ≡ f.length → AreOctets v → Writes f v a rest
fixed_writes f v on_field.Keep rest is long all = record { shown = rw is (append-nil (take f.length (v ++ rest)) ∙ take_at v rest f.length long); next = rw is (drop_at v rest f.length long) }
fixed_writes f v on_field.Remove rest is long all = record { shown = rw is refl; next = rw is (drop_at v rest f.length long) }
fixed_writes f v (on_field.Truncate bits) rest is long all = record { shown = rw is (fixed_truncated f v rest bits (bits % 8 == 0) refl long all); next = rw is (truncated_behind f v rest bits (bits % 8 == 0) long) }
fixed_writes f v (on_field.Degrade seconds) rest is long all = record { shown = rw is (ap (changed_value (on_value.Degrade seconds)) (take_at v rest f.length long)); next = rw is (drop_at v rest f.length long) }

variable_shown : (v : List ℕ) (rest : List ℕ) → Stands v rest → take (variable_octets (shortest_text v ++ rest)) (shortest_text v ++ rest) ≡ shortest_text v
variable_shown v rest at = take_at (shortest_text v) rest _ (sym at.octets)

variable_next : (v : List ℕ) (rest : List ℕ) → Stands v rest → drop (variable_octets (shortest_text v ++ rest)) (shortest_text v ++ rest) ≡ rest
variable_next v rest at = drop_at (shortest_text v) rest _ (sym at.octets)

variable_changed : (change : Change) (v : List ℕ) (rest : List ℕ) → Stands v rest → changed_text change (variable_span (shortest_text v ++ rest)) (shortest_text v ++ rest) ≡ shortest_text (changed_value change v)
variable_changed change v rest at =
    ap (λ s. changed_text change s (shortest_text v ++ rest)) at.span ∙ ap (λ t. changed_text change (length (head_of (length v)), length v) (t ++ rest)) (has_head v)
    ∙ changed_front change (head_of (length v)) v rest ∙ sym (text_of_changed change v)

variable_writes : (f : FieldSpec) (v : List ℕ) (a : ElementAction) (rest : List ℕ) → is_variable f ≡ true → Stands v rest → Writes f v a rest
variable_writes f v on_field.Keep rest is at = record { shown = rw is (variable_shown v rest at); next = rw is (variable_next v rest at) }
variable_writes f v on_field.Remove rest is at = record { shown = rw is refl; next = rw is (variable_next v rest at) }
variable_writes f v (on_field.Truncate bits) rest is at = record { shown = rw is (variable_changed (on_value.Truncate bits) v rest at); next = rw is (variable_next v rest at) }
variable_writes f v (on_field.Degrade seconds) rest is at = record { shown = rw is (variable_changed (on_value.Degrade seconds) v rest at); next = rw is (variable_next v rest at) }

writes : (f : FieldSpec) (v : List ℕ) (a : ElementAction) (rest : List ℕ) → fits_field f v ≡ true → AreOctets (value_text f v) → Writes f v a rest
writes f v a rest fits all = by (is_variable f) refl where
  by : (variable : Bool) → is_variable f ≡ variable → Writes f v a rest
  by true is = variable_writes f v a rest is (stands f v rest is fits)
  by false is =
      let plain : value_text f v ≡ v = rw is refl in
      fixed_writes f v a rest is (eqb-true (length v) f.length (rw is at fits)) (subst AreOctets plain all)

octets_before : (xs ys : List ℕ) → AreOctets (xs ++ ys) → AreOctets xs
octets_before xs ys all = subst AreOctets (take_at xs ys (length xs) refl) (AreOctets-take (length xs) (xs ++ ys) all)

octets_behind : (xs ys : List ℕ) → AreOctets (xs ++ ys) → AreOctets ys
octets_behind xs ys all = subst AreOctets (drop_at xs ys (length xs) refl) (AreOctets-drop (length xs) (xs ++ ys) all)

-- ---- all fields

-- a step for each field
pub plain_steps : List FieldSpec → List ElementVerdict → List Step
plain_steps [] ws = []
plain_steps (f ∷ fs) [] = []
plain_steps (f ∷ fs) (w ∷ ws) = step_of f w.action ∷ plain_steps fs ws

shown_plain : (fs : List FieldSpec) (vs : List (List ℕ)) (ws : List ElementVerdict) → fit_fields fs vs ≡ true → AreOctets (record_text fs vs) → shown_by (plain_steps fs ws) (record_text fs vs) ≡ shown_texts (zip fs vs) ws
unfolding plain_steps
shown_plain [] [] ws fit all = refl
shown_plain [] (v ∷ vs) ws fit all = absurd cc
shown_plain (f ∷ fs) [] ws fit all = absurd cc
shown_plain (f ∷ fs) (v ∷ vs) [] fit all = refl
shown_plain (f ∷ fs) (v ∷ vs) (w ∷ ws) fit all =
    let parts = and_parts (fits_field f v) (fit_fields fs vs) fit in
    let one = writes f v w.action (record_text fs vs) parts.0 (octets_before (value_text f v) (record_text fs vs) all) in
    ap (λ t. t ++ shown_by (plain_steps fs ws) (behind (step_of f w.action) (value_text f v ++ record_text fs vs))) one.shown
    ∙ ap (λ o. shown_text f v w.action ++ shown_by (plain_steps fs ws) o) one.next ∙ ap (λ t. shown_text f v w.action ++ t) (shown_plain fs vs ws parts.1 (octets_behind (value_text f v) (record_text fs vs) all))

pub are_steps : (fs : List FieldSpec) (ws : List ElementVerdict) (steps : List Step) → ShowAlike steps (plain_steps fs ws) → AreSteps fs ws steps
are_steps fs ws steps same = λ vs fit all. same (record_text fs vs) ∙ shown_plain fs vs ws fit all ∙ texts_are fs vs ws (fit_fields-length fs vs fit)

-- ---- making them, one field after another

-- the steps so far, the last one, and one for each field that is left
abbrev pub AreMade : List FieldSpec → List ElementVerdict → ℕ → List Step → Step → Type 0
AreMade fs ws n steps last = ShowAlike (steps ++ last ∷ plain_steps (drop n fs) (drop n ws)) (plain_steps fs ws)

pub none_made : (fs : List FieldSpec) (ws : List ElementVerdict) → AreMade fs ws 0 [] (Octets (stretch 0 0 0))
none_made fs ws octets = refl

pub one_made : (fs : List FieldSpec) (ws : List ElementVerdict) (n more : ℕ) (f : FieldSpec) (w : ElementVerdict) (steps new : List Step) (last next step : Step) → more ≡ n + 1 → n < length fs → n < length ws → f ≡ get_or fs n f → w ≡ get_or ws n w
    → next ≡ step_of f w.action → ((after : List Step) → ShowAlike (new ++ step ∷ after) (steps ++ last ∷ next ∷ after)) → AreMade fs ws n steps last → AreMade fs ws more new step
unfolding plain_steps
one_made fs ws n more f w steps new last next step one in_fs in_ws is_f is_w is_next joined made octets =
    let after = plain_steps (drop more fs) (drop more ws) in
    let there : plain_steps (drop n fs) (drop n ws) ≡ next ∷ after =
    ap (λ gs. plain_steps gs (drop n ws)) (drop_read fs n f in_fs is_f) ∙ ap (plain_steps (f ∷ drop (n + 1) fs)) (drop_read ws n w in_ws is_w)
    ∙ ap (λ m. step_of f w.action ∷ plain_steps (drop m fs) (drop m ws)) (sym one) ∙ ap (λ s. s ∷ after) (sym is_next) in
    joined after octets ∙ ap (λ ss. shown_by (steps ++ last ∷ ss) octets) (sym there) ∙ made octets

no_verdict_left : (fs : List FieldSpec) → plain_steps fs [] ≡ []
unfolding plain_steps
no_verdict_left [] = refl
no_verdict_left (f ∷ fs) = refl

none_left : (fs : List FieldSpec) (ws : List ElementVerdict) (n : ℕ) → n ≡ min (length fs) (length ws) → plain_steps (drop n fs) (drop n ws) ≡ []
unfolding plain_steps
none_left fs ws n end = by (leb (length fs) n) refl where
  by : (all : Bool) → leb (length fs) n ≡ all → plain_steps (drop n fs) (drop n ws) ≡ []
  by true is = ap (λ gs. plain_steps gs (drop n ws)) (drop_all n fs (leb-true _ _ is))
  by false is =
      let more : n < length fs = leb-false _ _ is in
      ap (plain_steps (drop n fs)) (drop_all n ws (omega arith)) ∙ no_verdict_left (drop n fs)

pub all_made : (fs : List FieldSpec) (ws : List ElementVerdict) (n : ℕ) (steps new : List Step) (last : Step) → n ≡ min (length fs) (length ws)
    → ShowAlike new (steps ++ last ∷ []) → AreMade fs ws n steps last → AreSteps fs ws new
all_made fs ws n steps new last end ended made =
    are_steps fs ws new (λ octets. ended octets ∙ ap (λ ss. shown_by (steps ++ last ∷ ss) octets) (sym (none_left fs ws n end)) ∙ made octets)

-- the last step shows nothing
pub no_more : (last : Step) (steps : List Step) → ((octets : List ℕ) → shown_at last octets ≡ []) → ShowAlike steps (steps ++ last ∷ [])
no_more last [] none octets = sym (ap (λ t. t ++ []) (none octets))
no_more last (step ∷ steps) none octets = ap (λ t. shown_at step octets ++ t) (no_more last steps none (behind step octets))

-- ---- for the calls

pub shows_nothing : (last : Step) (s : Stretch) (steps : List Step) → last ≡ Octets s → s.shown ≡ 0 → s.zeros ≡ 0 → ShowAlike steps (steps ++ last ∷ [])
shows_nothing last s steps is shown zeros = no_more last steps (rw is (λ octets. ap (λ (n : ℕ). take n octets ++ zeroed (length (take s.zeros (drop s.shown octets)))) shown ∙ ap (λ (n : ℕ). zeroed (length (take n (drop s.shown octets)))) zeros))

pub skips_variable : (last : Step) (steps : List Step) → last ≡ SkipVariable → ShowAlike steps (steps ++ last ∷ [])
skips_variable last steps is = no_more last steps (rw is (λ octets. refl))
