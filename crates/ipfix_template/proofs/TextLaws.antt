-- A record's text: its values are found in it again, each at its place.
use Rattle.std.proofs.Common.{◌≡◌, ℕ, ◌+◌, ◌-◌, ◌<◌, ◌≤◌, true, List, [], ◌∷◌, ◌++◌, length, take, drop, get_or, Option, Some, None, refl, sym, ap, subst, ◌∙◌, arith, append_assoc, length-append, length-drop}
use Rattle.std.specs.List.{zip}
use Rattle.std.proofs.lemmas.Bool.{and_parts, and_from}
use Rattle.std.proofs.lemmas.List.{append-nil, drop-drop, drop_at, drop_more, take_more, take_all}
use Rattle.std.proofs.lemmas.Option.{same_Some}
use Rattle.sequences.proofs.ListLaws.{drop_read}
use Rattle.ipfix_template.specs.declared.field.FieldSpec.{FieldSpec}
use Rattle.ipfix_template.specs.declared.template.Template.{Template}
use Rattle.ipfix_template.specs.Values.{span_at, values_in, fits_field, fit_fields, value_text, record_text}
use Rattle.ipfix_template.specs.DataRecord.{DataRecord, IsSound, IsKept, kept_record}
use Rattle.ipfix_template.specs.Places.{AreKept, ArePassed}
use Rattle.ipfix_template.proofs.SplitLaws.{Finds, span_at-only, values_at-only}
use Rattle.ipfix_template.proofs.WrittenLaws.{value_text-is, record_text-splits}
use Rattle.ipfix_template.proofs.Encoding.{fit_fields-length, fit_fields-at}

-- ---- what is kept of a record

-- values that fit are found where they were written, whatever follows
pub values_in-front : (fs : List FieldSpec) (vs : List (List ℕ)) (octets rest : List ℕ) → fit_fields fs vs ≡ true → octets ≡ record_text fs vs ++ rest → values_in fs octets ≡ vs
unfolding values_in
values_in-front fs vs octets rest fit parts = rw (parts, values_at-only fs (record_text fs vs) rest vs (record_text-splits fs vs fit)) refl

-- values that fit are found in what is written for them
pub values_in-text : (fs : List FieldSpec) (vs : List (List ℕ)) → fit_fields fs vs ≡ true → values_in fs (record_text fs vs) ≡ vs
values_in-text fs vs fit = values_in-front fs vs (record_text fs vs) [] fit (sym (append-nil (record_text fs vs)))

abbrev record_with : Template → List (List ℕ) → DataRecord
record_with t values = record { template = t; values = values }

-- what is kept as octets of values that fit is the record of these values
pub kept_is : (t : Template) (vs : List (List ℕ)) (octets : List ℕ) → fit_fields t.fields vs ≡ true → octets ≡ record_text t.fields vs → kept_record t octets ≡ record { template = t; values = vs }
kept_is t vs octets fit is = ap (record_with t) (ap (values_in t.fields) is ∙ values_in-text t.fields vs fit)

-- octets that are written for values that fit are such as are kept
pub are_kept : (fs : List FieldSpec) (vs : List (List ℕ)) (octets : List ℕ) → fit_fields fs vs ≡ true → octets ≡ record_text fs vs → AreKept fs octets
are_kept fs vs octets fit is =
    let same : vs ≡ values_in fs octets = sym (ap (values_in fs) is ∙ values_in-text fs vs fit) in
    record {
      fit = subst (λ (v : List (List ℕ)). fit_fields fs v ≡ true) same fit;
      shortest = is ∙ ap (record_text fs) same;
    }

-- octets that are written for a record may be kept
pub kept_from : (t : Template) (vs : List (List ℕ)) (octets : List ℕ) → IsSound (record { template = t; values = vs }) → octets ≡ record_text t.fields vs → IsKept t octets
kept_from t vs octets sound is =
    let same : vs ≡ values_in t.fields octets = sym (ap (values_in t.fields) is ∙ values_in-text t.fields vs sound.fit) in
    record {
      sound = subst (λ (v : List (List ℕ)). IsSound (record_with t v)) same sound;
      shortest = (are_kept t.fields vs octets sound.fit is).shortest;
    }

-- ---- one field after another

-- the value of the field that comes next is found at the front of what is left
pub next_found : (fs : List FieldSpec) (vs : List (List ℕ)) (f : FieldSpec) (i : ℕ) (rest : List ℕ) → fit_fields fs vs ≡ true → i < length fs → f ≡ get_or fs i f → rest ≡ record_text (drop i fs) (drop i vs)
    → (after : List ℕ) × (rest ≡ value_text f (get_or vs i []) ++ after) × (after ≡ record_text (drop (i + 1) fs) (drop (i + 1) vs)) × Finds (span_at f rest) rest (value_text f (get_or vs i [])) (get_or vs i [])
next_found fs vs f i rest fit lt is at =
    let value = get_or vs i [] in
    let after = record_text (drop (i + 1) fs) (drop (i + 1) vs) in
    let even = fit_fields-length fs vs fit in
    let fits : fits_field f value ≡ true = ap (λ (g : FieldSpec). fits_field g value) is ∙ fit_fields-at fs vs i f [] fit lt in
    let front : record_text (drop i fs) (drop i vs) ≡ value_text f value ++ after = rw (drop_read fs i f lt is, drop_more vs i [] (omega (arith, even, lt))) refl in
    let parts : rest ≡ value_text f value ++ after = at ∙ front in
    let found = span_at-only f (value_text f value) value after (value_text-is f value fits) in
    (after, parts, refl, subst (λ (o : List ℕ). Finds (span_at f o) o (value_text f value) value) (sym parts) found)

not_there : (span : Option (ℕ × ℕ)) (start len : ℕ) → span ≡ None → span ≡ Some (start, len) → ⊥
not_there None start len is e = absurd cc
not_there (Some span) start len is e = absurd cc

-- so it is there
pub next_there : (fs : List FieldSpec) (f : FieldSpec) (i used : ℕ) (octets rest : List ℕ) → AreKept fs octets → i < length fs → f ≡ get_or fs i f → rest ≡ drop used octets → ArePassed fs octets i used → span_at f rest ≡ None → ⊥
next_there fs f i used octets rest kept lt is left passed none =
    let vs = values_in fs octets in
    let next = next_found fs vs f i rest kept.fit lt is (left ∙ passed.left) in
    not_there (span_at f rest) next.3.start (length (get_or vs i [])) none next.3.at

-- and where it is found it lies within the octets, and the other fields' values stand behind it
pub record Passes (fs : List FieldSpec) (octets : List ℕ) (i start end : ℕ) : Type 0 where
  pub within : (start ≤ end) × (end ≤ length octets)
  pub shown : take (end - start) (drop start octets) ≡ get_or (values_in fs octets) i []
  pub passed : ArePassed fs octets (i + 1) end

pub passes : (fs : List FieldSpec) (f : FieldSpec) (i used start len : ℕ) (octets rest : List ℕ) → AreKept fs octets → i < length fs → f ≡ get_or fs i f → rest ≡ drop used octets → ArePassed fs octets i used
    → span_at f rest ≡ Some (start, len) → Passes fs octets i (used + start) (used + start + len)
passes fs f i used start len octets rest kept lt is left was found =
    let vs = values_in fs octets in
    let next = next_found fs vs f i rest kept.fit lt is (left ∙ was.left) in
    let value = get_or vs i [] in
    let same = same_Some {A = ℕ × ℕ} (start, len) (next.3.start, length value) (sym found ∙ next.3.at) in
    let starts : start ≡ next.3.start = ap (λ (p : ℕ × ℕ). p.0) same in
    let lens : len ≡ length value = ap (λ (p : ℕ × ℕ). p.1) same in
    let text = value_text f value in
    let wide : start + len ≡ length text = omega (arith, starts, lens, next.3.ends) in
    let shown : take len (drop start rest) ≡ value = rw (starts, lens) next.3.shown in
    let here : take len (drop (used + start) octets) ≡ value = ap (take len) (sym (drop-drop start used octets) ∙ ap (drop start) (sym left)) ∙ shown in
    let behind : drop (start + len) rest ≡ next.0 = ap (drop (start + len)) next.1 ∙ drop_at text next.0 (start + len) (sym wide) in
    let after : drop (used + (start + len)) octets ≡ record_text (drop (i + 1) fs) (drop (i + 1) vs) = sym (drop-drop (start + len) used octets) ∙ ap (drop (start + len)) (sym left) ∙ behind ∙ next.2 in
    let end : used + start + len ≡ used + (start + len) = omega arith in
    let within : used + start + len ≤ length octets = omega (arith, wide, was.within, ap length left, ap length next.1, length-append text next.0, length-drop used octets) in
    record {
      within = (omega arith, within);
      shown = ap (λ (n : ℕ). take n (drop (used + start) octets)) (omega arith) ∙ here;
      passed = record { within = within; left = ap (λ (n : ℕ). drop n octets) end ∙ after };
    }

-- before the first field nothing is passed
pub none_passed : (fs : List FieldSpec) (octets : List ℕ) → AreKept fs octets → ArePassed fs octets 0 0
none_passed fs octets kept = record { within = omega arith; left = kept.shortest }

-- one value more of a list of them
pub one_cut : (fs : List FieldSpec) (octets o value : List ℕ) (before after : List (List ℕ)) (i start end : ℕ) → AreKept fs octets → i < length fs → o ≡ octets → take (end - start) (drop start o) ≡ get_or (values_in fs o) i [] → value ≡ take (end - start) (drop start octets)
    → before ≡ take i (values_in fs octets) → after ≡ before ++ value ∷ [] → after ≡ take (i + 1) (values_in fs octets)
one_cut fs octets o value before after i start end kept lt same shown is was grown =
    let vs = values_in fs octets in
    let at : value ≡ get_or vs i [] = is ∙ ap (λ (x : List ℕ). take (end - start) (drop start x)) (sym same) ∙ shown ∙ ap (λ (x : List ℕ). get_or (values_in fs x) i []) same in
    let more = take_more vs i [] (omega (arith, lt, fit_fields-length fs vs kept.fit)) in
    grown ∙ ap (λ (b : List (List ℕ)). b ++ value ∷ []) was ∙ ap (λ (v : List ℕ). take i vs ++ v ∷ []) at ∙ sym more

-- all of them
pub all_cut : (fs : List FieldSpec) (octets : List ℕ) (i : ℕ) → AreKept fs octets → length fs ≤ i → take i (values_in fs octets) ≡ values_in fs octets
all_cut fs octets i kept le = take_all i (values_in fs octets) (omega (arith, le, fit_fields-length fs (values_in fs octets) kept.fit))

-- ---- the first value

first_by : (f : FieldSpec) (fs : List FieldSpec) (vs : List (List ℕ)) (value after : List ℕ) → fit_fields (f ∷ fs) vs ≡ true → value ≡ get_or vs 0 [] → after ≡ record_text fs (drop 1 vs) → (vs ≡ value ∷ values_in fs after) × AreKept fs after
first_by f fs [] value after fit is left = absurd cc
first_by f fs (v ∷ vs) value after fit is left =
    let fits = (and_parts (fits_field f v) (fit_fields fs vs) fit).1 in
    let rest : values_in fs after ≡ vs = ap (values_in fs) left ∙ values_in-text fs vs fits in
    (ap (λ (x : List ℕ). x ∷ vs) (sym is) ∙ ap (λ (x : List (List ℕ)). value ∷ x) (sym rest), are_kept fs vs after fits left)

-- the first value, and those of the octets behind it
pub first_cut : (fs : List FieldSpec) (octets value after : List ℕ) (start end : ℕ) → AreKept fs octets → 0 < length fs → take (end - start) (drop start octets) ≡ get_or (values_in fs octets) 0 [] → ArePassed fs octets 1 end
    → value ≡ take (end - start) (drop start octets) → after ≡ drop end octets → (values_in fs octets ≡ value ∷ values_in (drop 1 fs) after) × AreKept (drop 1 fs) after
first_cut [] octets value after start end kept some shown passed is rest = absurd (omega arith)
first_cut (f ∷ fs) octets value after start end kept some shown passed is rest =
    first_by f fs (values_in (f ∷ fs) octets) value after kept.fit (is ∙ shown) (rest ∙ passed.left)

-- a field and its value more stand before those that are left
pub first_entry : (fs others : List FieldSpec) (f : FieldSpec) (values more : List (List ℕ)) (value : List ℕ) → fs ≡ f ∷ others → values ≡ value ∷ more → zip fs values ≡ (f, value) ∷ zip others more
first_entry fs others f values more value is at = rw (is, at) refl

-- ---- what is written one after another

-- values behind others, as many as their fields
pub record_text-append : (fs gs : List FieldSpec) (vs ws : List (List ℕ)) → length fs ≡ length vs → record_text (fs ++ gs) (vs ++ ws) ≡ record_text fs vs ++ record_text gs ws
record_text-append [] gs [] ws even = refl
record_text-append [] gs (v ∷ vs) ws even = absurd (omega arith)
record_text-append (f ∷ fs) gs [] ws even = absurd (omega arith)
record_text-append (f ∷ fs) gs (v ∷ vs) ws even =
    ap (λ (t : List ℕ). value_text f v ++ t) (record_text-append fs gs vs ws (omega arith)) ∙ sym (append_assoc (value_text f v) (record_text fs vs) (record_text gs ws))

pub fit_fields-append : (fs gs : List FieldSpec) (vs ws : List (List ℕ)) → fit_fields fs vs ≡ true → fit_fields gs ws ≡ true → fit_fields (fs ++ gs) (vs ++ ws) ≡ true
fit_fields-append [] gs [] ws fit more = more
fit_fields-append [] gs (v ∷ vs) ws fit more = absurd cc
fit_fields-append (f ∷ fs) gs [] ws fit more = absurd cc
fit_fields-append (f ∷ fs) gs (v ∷ vs) ws fit more =
    let parts = and_parts (fits_field f v) (fit_fields fs vs) fit in
    and_from (fits_field f v) (fit_fields (fs ++ gs) (vs ++ ws)) parts.0 (fit_fields-append fs gs vs ws parts.1 more)

-- one value more, as `encode_value` appends it
pub record_text-push : (fs : List FieldSpec) (f : FieldSpec) (vs : List (List ℕ)) (v : List ℕ) → length fs ≡ length vs → record_text (fs ++ f ∷ []) (vs ++ v ∷ []) ≡ record_text fs vs ++ value_text f v
record_text-push fs f vs v even =
    record_text-append fs (f ∷ []) vs (v ∷ []) even ∙ ap (λ (t : List ℕ). record_text fs vs ++ t) (append-nil (value_text f v))
