-- A text of values is read field by field, and written again in its shortest form.
use Rattle.std.proofs.Common.{◌≡◌, ℕ, ◌+◌, ◌-◌, ◌<◌, ◌≤◌, true, List, [], ◌∷◌, ◌++◌, length, take, drop, get_or, Option, Some, None, refl, sym, ap, subst, ◌∙◌, arith}
use Rattle.std.proofs.lemmas.List.{append-nil, drop_at, drop_more, take_all}
use Rattle.std.proofs.lemmas.Option.{same_Some}
use Rattle.sequences.proofs.ListLaws.{drop_read}
use Rattle.ipfix_template.specs.declared.field.FieldSpec.{FieldSpec}
use Rattle.ipfix_template.specs.Values.{Splits, span_at, values_in, fits_field, fit_fields, value_text, record_text}
use Rattle.ipfix_template.proofs.SplitLaws.{Finds, span_at-only, values_at-only}
use Rattle.ipfix_template.proofs.Encoding.{fit_fields-length, fit_fields-at, record_text-more}

-- the values of a text are found in it, whatever follows
pub values_in-splits : (fs : List FieldSpec) (text rest : List ℕ) (vs : List (List ℕ)) → Splits fs text vs → values_in fs (text ++ rest) ≡ vs
unfolding values_in
values_in-splits fs text rest vs is = rw (values_at-only fs text rest vs is) refl

pub values_in-whole : (fs : List FieldSpec) (text : List ℕ) (vs : List (List ℕ)) → Splits fs text vs → values_in fs text ≡ vs
values_in-whole fs text vs is = ap (values_in fs) (sym (append-nil text)) ∙ values_in-splits fs text [] vs is

-- the text of the value that comes next, and those of the others
next_text : (fs : List FieldSpec) (vs : List (List ℕ)) (f : FieldSpec) (i : ℕ) (rest : List ℕ) → i < length fs → i < length vs → f ≡ get_or fs i f → Splits (drop i fs) rest (drop i vs)
    → (text back : List ℕ) × (rest ≡ text ++ back) × Finds (span_at f rest) rest text (get_or vs i []) × Splits (drop (i + 1) fs) back (drop (i + 1) vs)
next_text fs vs f i rest lt le is left =
    let value = get_or vs i [] in
    let fields : drop i fs ≡ f ∷ drop (i + 1) fs = drop_read fs i f lt is in
    let values : drop i vs ≡ value ∷ drop (i + 1) vs = drop_more vs i [] le in
    let whole : Splits (f ∷ drop (i + 1) fs) rest (value ∷ drop (i + 1) vs) = subst (λ (gs : List FieldSpec). Splits gs rest (value ∷ drop (i + 1) vs)) fields (subst (λ (ws : List (List ℕ)). Splits (drop i fs) rest ws) values left) in
    let found = span_at-only f whole.0 value whole.1 whole.3 in
    (whole.0, whole.1, whole.2, subst (λ (o : List ℕ). Finds (span_at f o) o whole.0 value) (sym whole.2) found, whole.4)

not_there : (span : Option (ℕ × ℕ)) (start len : ℕ) → span ≡ None → span ≡ Some (start, len) → ⊥
not_there None start len is e = absurd cc
not_there (Some span) start len is e = absurd cc

-- the value that comes next is there
pub text_there : (fs : List FieldSpec) (vs : List (List ℕ)) (f : FieldSpec) (i : ℕ) (rest : List ℕ) → fit_fields fs vs ≡ true → i < length fs → f ≡ get_or fs i f → Splits (drop i fs) rest (drop i vs) → span_at f rest ≡ None → ⊥
text_there fs vs f i rest fit lt is left none =
    let next = next_text fs vs f i rest lt (omega (arith, lt, fit_fields-length fs vs fit)) is left in
    not_there (span_at f rest) next.3.start (length (get_or vs i [])) none next.3.at

-- it is the value that is found, it fits its field, and the others' texts stand behind it
pub record Reads (fs : List FieldSpec) (vs : List (List ℕ)) (f : FieldSpec) (i : ℕ) (rest : List ℕ) (start end : ℕ) : Type 0 where
  pub value : take (end - start) (drop start rest) ≡ get_or vs i []
  pub fits : fits_field f (take (end - start) (drop start rest)) ≡ true
  pub left : (after : List ℕ) → after ≡ drop end rest → Splits (drop (i + 1) fs) after (drop (i + 1) vs)

pub reads : (fs : List FieldSpec) (vs : List (List ℕ)) (f : FieldSpec) (i : ℕ) (rest : List ℕ) (start len : ℕ) → fit_fields fs vs ≡ true → i < length fs → f ≡ get_or fs i f → Splits (drop i fs) rest (drop i vs) → span_at f rest ≡ Some (start, len) → Reads fs vs f i rest start (start + len)
reads fs vs f i rest start len fit lt is left found =
    let value = get_or vs i [] in
    let next = next_text fs vs f i rest lt (omega (arith, lt, fit_fields-length fs vs fit)) is left in
    let same = same_Some {A = ℕ × ℕ} (start, len) (next.3.start, length value) (sym found ∙ next.3.at) in
    let starts : start ≡ next.3.start = ap (λ (p : ℕ × ℕ). p.0) same in
    let lens : len ≡ length value = ap (λ (p : ℕ × ℕ). p.1) same in
    let shown : take len (drop start rest) ≡ value = rw (starts, lens) next.3.shown in
    let here : take (start + len - start) (drop start rest) ≡ value = ap (λ (n : ℕ). take n (drop start rest)) (omega arith) ∙ shown in
    let wide : length next.0 ≡ start + len = omega (arith, starts, lens, next.3.ends) in
    let behind : drop (start + len) rest ≡ next.1 = ap (drop (start + len)) next.2 ∙ drop_at next.0 next.1 (start + len) wide in
    record {
      value = here;
      fits = ap (fits_field f) here ∙ ap (λ (g : FieldSpec). fits_field g value) is ∙ fit_fields-at fs vs i f [] fit lt;
      left = λ after same. subst (λ (o : List ℕ). Splits (drop (i + 1) fs) o (drop (i + 1) vs)) (sym (same ∙ behind)) next.4;
    }

-- one value more is written
pub one_written_again : (fs : List FieldSpec) (vs : List (List ℕ)) (f : FieldSpec) (i : ℕ) (value before after : List ℕ) → fit_fields fs vs ≡ true → i < length fs → f ≡ get_or fs i f → value ≡ get_or vs i [] → before ≡ record_text (take i fs) (take i vs) → after ≡ before ++ value_text f value → after ≡ record_text (take (i + 1) fs) (take (i + 1) vs)
one_written_again fs vs f i value before after fit lt is at was grown =
    let more = record_text-more fs vs i f [] lt (omega (arith, lt, fit_fields-length fs vs fit)) in
    let front = record_text (take i fs) (take i vs) in
    grown ∙ ap (λ (b : List ℕ). b ++ value_text f value) was ∙ ap (λ (v : List ℕ). front ++ value_text f v) at ∙ ap (λ (g : FieldSpec). front ++ value_text g (get_or vs i [])) is ∙ sym more

-- all of them
pub all_written_again : (fs : List FieldSpec) (vs : List (List ℕ)) (i : ℕ) → fit_fields fs vs ≡ true → length fs ≤ i → record_text (take i fs) (take i vs) ≡ record_text fs vs
all_written_again fs vs i fit le = rw (take_all i fs le, take_all i vs (omega (arith, le, fit_fields-length fs vs fit))) refl
