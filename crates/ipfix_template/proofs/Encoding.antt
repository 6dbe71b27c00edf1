-- How a template and a record are written, field by field.
use Rattle.std.proofs.Common.{◌≡◌, ℕ, zero, suc, ◌+◌, ◌<◌, ◌≤◌, Bool, true, false, cond, List, [], ◌∷◌, ◌++◌, length, take, drop, get_or, refl, sym, ap, ◌∙◌, append_assoc, add-one, drop-cons, arith, length-append}
use Rattle.std.specs.Prelude.{◌&&◌, Result, Ok, Err, OnErr}
use Rattle.std.specs.List.{flat_map}
use Rattle.std.proofs.lemmas.List.{take_at, append-nil, drop_all, take_more, flat_map_more}
use Rattle.std.proofs.lemmas.List.Concat.{flat_map-cons}
use Rattle.std.proofs.lemmas.Bool.{and_parts}
use Rattle.ipfix_template.specs.Template.{specifier, is_options, record_head, template_record}
use Rattle.ipfix_template.specs.declared.template.Template.{Template}
use Rattle.ipfix_template.specs.declared.field.FieldSpec.{FieldSpec}
use Rattle.ipfix_template.specs.Values.{fits_field, fit_fields, value_text, record_text}

-- what stood there is still at the front
pub kept : (old new more : List ℕ) → new ≡ old ++ more → take (length old) new ≡ old
kept old new more is = rw is (take_at old more (length old) refl)

-- the ID does not change a template record's length
pub length-template_record : (id : ℕ) (options : Bool) (t : Template) → length (template_record id options t) ≡ length (template_record 256 options t)
unfolding template_record
length-template_record id true t = refl
length-template_record id false t = refl

-- there are as many values as fields
pub fit_fields-length : (fs : List FieldSpec) (vs : List (List ℕ)) → fit_fields fs vs ≡ true → length fs ≡ length vs
fit_fields-length [] [] fit = refl
fit_fields-length [] (v ∷ vs) fit = absurd cc
fit_fields-length (f ∷ fs) [] fit = absurd cc
fit_fields-length (f ∷ fs) (v ∷ vs) fit = ap suc (fit_fields-length fs vs (and_parts (fits_field f v) (fit_fields fs vs) fit).1)

-- and each fits its field
pub fit_fields-at : (fs : List FieldSpec) (vs : List (List ℕ)) (i : ℕ) (f : FieldSpec) (v : List ℕ) → fit_fields fs vs ≡ true → i < length fs → fits_field (get_or fs i f) (get_or vs i v) ≡ true
fit_fields-at [] vs i f v fit lt = absurd (omega arith)
fit_fields-at (g ∷ fs) [] i f v fit lt = absurd cc
fit_fields-at (g ∷ fs) (w ∷ vs) zero f v fit lt = (and_parts (fits_field g w) (fit_fields fs vs) fit).0
fit_fields-at (g ∷ fs) (w ∷ vs) (suc i) f v fit lt = fit_fields-at fs vs i f v (and_parts (fits_field g w) (fit_fields fs vs) fit).1 (omega arith)

-- one value more
pub record_text-more : (fs : List FieldSpec) (vs : List (List ℕ)) (i : ℕ) (f : FieldSpec) (v : List ℕ) → i < length fs → i < length vs → record_text (take (i + 1) fs) (take (i + 1) vs) ≡ record_text (take i fs) (take i vs) ++ value_text (get_or fs i f) (get_or vs i v)
record_text-more fs vs i f v lt le = rw add-one (steps fs vs i f v lt le) where
  steps : (fs : List FieldSpec) (vs : List (List ℕ)) (i : ℕ) (f : FieldSpec) (v : List ℕ) → i < length fs → i < length vs → record_text (take (suc i) fs) (take (suc i) vs) ≡ record_text (take i fs) (take i vs) ++ value_text (get_or fs i f) (get_or vs i v)
  steps [] vs i f v lt le = absurd (omega arith)
  steps (g ∷ fs) [] i f v lt le = absurd (omega arith)
  steps (g ∷ fs) (w ∷ vs) zero f v lt le = append-nil (value_text g w)
  steps (g ∷ fs) (w ∷ vs) (suc i) f v lt le = ap (λ (t : List ℕ). value_text g w ++ t) (steps fs vs i f v (omega arith) (omega arith)) ∙ sym (append_assoc (value_text g w) (record_text (take i fs) (take i vs)) (value_text (get_or fs i f) (get_or vs i v)))

-- an uneven number of values does not fit
pub fit_fields-uneven : (fs : List FieldSpec) (vs : List (List ℕ)) → (length fs ≡ length vs → ⊥) → fit_fields fs vs ≡ false
fit_fields-uneven fs vs uneven = by_test (fit_fields fs vs) refl where
  by_test : (b : Bool) → fit_fields fs vs ≡ b → fit_fields fs vs ≡ false
  by_test false e = e
  by_test true e = absurd (uneven (fit_fields-length fs vs e))

-- the fields and values from a place on fit if those there do, and those after them
pub fit_fields-drop : (fs : List FieldSpec) (vs : List (List ℕ)) (i : ℕ) (f : FieldSpec) (v : List ℕ) → i < length fs → i < length vs → fit_fields (drop i fs) (drop i vs) ≡ (fits_field (get_or fs i f) (get_or vs i v) && fit_fields (drop (i + 1) fs) (drop (i + 1) vs))
fit_fields-drop fs vs i f v lt le = rw (add-one, drop-cons fs i f, drop-cons vs i v) refl

-- past the last of as many there is nothing that does not fit
pub fit_fields-end : (fs : List FieldSpec) (vs : List (List ℕ)) (i : ℕ) → length fs ≤ i → length vs ≤ i → fit_fields (drop i fs) (drop i vs) ≡ true
fit_fields-end fs vs i le more = rw (drop_all i fs le, drop_all i vs more) refl

-- the octets grow by those of one value
pub length-record_text-more : (fs : List FieldSpec) (vs : List (List ℕ)) (i : ℕ) (f : FieldSpec) (v : List ℕ) → i < length fs → i < length vs → length (record_text (take (i + 1) fs) (take (i + 1) vs)) ≡ length (record_text (take i fs) (take i vs)) + length (value_text (get_or fs i f) (get_or vs i v))
length-record_text-more fs vs i f v lt le =
    ap length (record_text-more fs vs i f v lt le) ∙ length-append (record_text (take i fs) (take i vs)) (value_text (get_or fs i f) (get_or vs i v))

-- the octets grow by those of one specifier
pub length-specifiers-more : (fs : List FieldSpec) (i : ℕ) (f : FieldSpec) → i < length fs → length (flat_map specifier (take (i + 1) fs)) ≡ length (flat_map specifier (take i fs)) + length (specifier (get_or fs i f))
length-specifiers-more fs i f lt =
    ap (λ (t : List FieldSpec). length (flat_map specifier t)) (take_more fs i f lt)
    ∙ ap length (sym (flat_map_more specifier [] (take i fs) (get_or fs i f)))
    ∙ length-append (flat_map specifier (take i fs)) (specifier (get_or fs i f))

-- one field and value more that fit
pub fit_fields-next : (fs : List FieldSpec) (vs : List (List ℕ)) (f : FieldSpec) (v : List ℕ) (i n : ℕ) (whole : Bool) → i < length fs → i < length vs → n ≡ i + 1 → f ≡ get_or fs i f → v ≡ get_or vs i v → fits_field f v ≡ true → fit_fields (drop i fs) (drop i vs) ≡ whole → fit_fields (drop n fs) (drop n vs) ≡ whole
fit_fields-next fs vs f v i n whole lt le one is-f is-v fits e =
    let here : fit_fields (drop i fs) (drop i vs) ≡ (fits_field f v && fit_fields (drop (i + 1) fs) (drop (i + 1) vs)) = fit_fields-drop fs vs i f v lt le ∙ rw (← is-f, ← is-v) refl in
    rw one (sym (here ∙ rw fits refl) ∙ e)

-- the octets of a template's record: its head, and the specifiers
pub octets_of_record : (id : ℕ) (t : Template) → length (template_record id (is_options t) t) ≡ cond (is_options t) 6 4 + length (flat_map specifier t.fields)
unfolding template_record
octets_of_record id t = by_kind (is_options t) where
  by_kind : (options : Bool) → length (record_head id options t ++ flat_map specifier t.fields) ≡ cond options 6 4 + length (flat_map specifier t.fields)
  by_kind true = length-append (record_head id true t) (flat_map specifier t.fields)
  by_kind false = length-append (record_head id false t) (flat_map specifier t.fields)

-- what holds in any case holds on an error
pub on_err : {T E P : Type 0} → (r : Result T E) → P → OnErr r P
on_err (Ok x) p = tt
on_err (Err e) p = p

-- the values up to one, and that one, are among all of them
pub record_text-most : (fs : List FieldSpec) (vs : List (List ℕ)) (i : ℕ) (f : FieldSpec) (v : List ℕ) → i < length fs → i < length vs → length (record_text (take i fs) (take i vs)) + length (value_text (get_or fs i f) (get_or vs i v)) ≤ length (record_text fs vs)
record_text-most [] vs i f v lt le = absurd (omega arith)
record_text-most (g ∷ fs) [] i f v lt le = absurd (omega arith)
record_text-most (g ∷ fs) (w ∷ vs) zero f v lt le = omega (arith, length-append (value_text g w) (record_text fs vs))
record_text-most (g ∷ fs) (w ∷ vs) (suc i) f v lt le =
    omega (arith, length-append (value_text g w) (record_text fs vs), length-append (value_text g w) (record_text (take i fs) (take i vs)), record_text-most fs vs i f v (omega arith) (omega arith))

-- without room for one value more there is none for all of them
pub no_room_for_values : (fs : List FieldSpec) (vs : List (List ℕ)) (f : FieldSpec) (v : List ℕ) (i : ℕ) (old now : List ℕ) (had has : ℕ) → i < length fs → i < length vs → f ≡ get_or fs i f → v ≡ get_or vs i v → now ≡ old ++ record_text (take i fs) (take i vs) → had ≤ has → has < length now + length (value_text f v) → had < length old + length (record_text fs vs)
no_room_for_values fs vs f v i old now had has lt le is-f is-v is grew none =
    let one : length (value_text (get_or fs i f) (get_or vs i v)) ≡ length (value_text f v) = rw (← is-f, ← is-v) refl in
    omega (arith, none, grew, one, record_text-most fs vs i f v lt le, ap length is, length-append old (record_text (take i fs) (take i vs)))

-- the specifiers up to one, and that one, are among all of them
pub specifiers-most : (fs : List FieldSpec) (i : ℕ) (f : FieldSpec) → i < length fs → length (flat_map specifier (take i fs)) + length (specifier (get_or fs i f)) ≤ length (flat_map specifier fs)
specifiers-most [] i f lt = absurd (omega arith)
specifiers-most (g ∷ fs) zero f lt = omega (arith, ap length (flat_map-cons specifier g fs), length-append (specifier g) (flat_map specifier fs))
specifiers-most (g ∷ fs) (suc i) f lt =
    omega (arith, ap length (flat_map-cons specifier g fs), length-append (specifier g) (flat_map specifier fs), ap length (flat_map-cons specifier g (take i fs)), length-append (specifier g) (flat_map specifier (take i fs)), specifiers-most fs i f (omega arith))

-- without room for one specifier more there is none for all of them
pub no_room_for_specifiers : (fs : List FieldSpec) (f : FieldSpec) (i : ℕ) (old now : List ℕ) (had has : ℕ) → i < length fs → f ≡ get_or fs i f → now ≡ old ++ flat_map specifier (take i fs) → had ≤ has → has < length now + length (specifier f) → had < length old + length (flat_map specifier fs)
no_room_for_specifiers fs f i old now had has lt is-f is grew none =
    let one : length (specifier (get_or fs i f)) ≡ length (specifier f) = rw (← is-f) refl in
    omega (arith, none, grew, one, specifiers-most fs i f lt, ap length is, length-append old (flat_map specifier (take i fs)))
