-- A record's values of an element have 1 octet at least, and at most its full width.
use Rattle.std.proofs.Common.{◌≡◌, ℕ, zero, suc, ◌<◌, ◌≤◌, ◌^◌, Bool, true, false, cond, eqb, List, [], ◌∷◌, length, get_or, Option, Some, None, refl, sym, ap, ◌∙◌, arith}
use Rattle.std.specs.Prelude.{◌==◌, unwrap_or, slice_get, position, nat_le}
use Rattle.std.specs.List.{list_all, AllByRecursion}
use Rattle.std.proofs.lemmas.Bool.{and_parts, eqb-true, ne_eqb, leb-true}
use Rattle.std.proofs.lemmas.Option.{get_or_from_slice_get, slice_get-get_or}
use Rattle.std.proofs.lemmas.List.Quantifiers.{position-Some}
use Rattle.sequences.specs.Options.{◌>>=◌}
use Rattle.ipfix_element.specs.Element.{Element}
use Rattle.ipfix_element.specs.declared.kind.Kind.{Kind}
use Rattle.ipfix_element.specs.declared.kind.Kind.TheVariants.{U8, U16, U32, U64, Ipv4, Ipv6, Mac, Seconds, Millis, Text, Octets}
use Rattle.ipfix_element.specs.Kinds.{kind_of, full_width_of, is_allowed_length, is_up_to}
use Rattle.ipfix_element.specs.Registry.{registry}
use Rattle.ipfix_element.proofs.NameLaws.{same_element}
use Rattle.std.proofs.Math.Nat.{pow-le-pow_right}
use Rattle.ipfix_template.specs.declared.field.FieldSpec.{FieldSpec}
use Rattle.ipfix_template.specs.declared.template.Template.{Template}
use Rattle.ipfix_template.specs.declared.template.Refused.TheVariants.{BadLength, BadScope, EmptyRecord}
use Rattle.ipfix_template.specs.Equality.{same_pen}
use Rattle.ipfix_template.specs.SameTemplate.{pen_is}
use Rattle.ipfix_template.specs.Template.{is_variable, has_allowed_length, has_bad_scope, shortest_record, refusal_of, is_options, IsAcceptable}
use Rattle.ipfix_template.specs.Values.{fits_field}
use Rattle.ipfix_template.specs.DataRecord.{DataRecord, IsSound}
use Rattle.ipfix_template.proofs.Encoding.{fit_fields-at, fit_fields-length}
use Rattle.policy_judge.specs.Match.{is_same_element}
use Rattle.flow_aggregate.specs.Values.{first_value, full_width, flow_start_milliseconds, flow_start_seconds, flow_end_milliseconds, octet_delta_count, packet_delta_count, delta_flow_count}
use Rattle.policy_text.specs.Classes.{is_key_kind}
use Rattle.flow_aggregate.specs.Widths.{IsWide}
use Rattle.policy_text.specs.Policies.{Aggregate, IsRanged}
use Rattle.flow_aggregate.specs.Groups.{HaveWidths, IsSummed}

-- ---- lengths that a kind allows

-- 1 to the width
abbrev Within : ℕ → ℕ → Type 0
Within width len = (1 ≤ len) × (len ≤ width)

up_to : (width len : ℕ) → is_up_to width len ≡ true → Within width len
up_to width len e =
    let parts = and_parts (nat_le 1 len) (nat_le len width) e in
    (leb-true 1 len parts.0, leb-true len width parts.1)

just : (width len : ℕ) → 1 ≤ width → eqb len width ≡ true → Within width len
just width len some e = let is = eqb-true len width e in (omega (arith, is, some), omega (arith, is))

pub kind_within : (kind : Kind) (len : ℕ) → 1 ≤ unwrap_or (full_width_of kind) 0 → is_allowed_length kind len ≡ true → Within (unwrap_or (full_width_of kind) 0) len
unfolding is_allowed_length full_width_of
kind_within U8 len some e = just 1 len some e
kind_within U16 len some e = up_to 2 len e
kind_within U32 len some e = up_to 4 len e
kind_within U64 len some e = up_to 8 len e
kind_within Ipv4 len some e = just 4 len some e
kind_within Ipv6 len some e = just 16 len some e
kind_within Mac len some e = just 6 len some e
kind_within Seconds len some e = just 4 len some e
kind_within Millis len some e = just 8 len some e
kind_within Text len some e = absurd (omega (arith, some))
kind_within Octets len some e = absurd (omega (arith, some))

pub kind_narrow : (kind : Kind) → unwrap_or (full_width_of kind) 0 ≤ 16
unfolding full_width_of
kind_narrow U8 = omega arith
kind_narrow U16 = omega arith
kind_narrow U32 = omega arith
kind_narrow U64 = omega arith
kind_narrow Ipv4 = omega arith
kind_narrow Ipv6 = omega arith
kind_narrow Mac = omega arith
kind_narrow Seconds = omega arith
kind_narrow Millis = omega arith
kind_narrow Text = omega arith
kind_narrow Octets = omega arith

-- ---- the fields of a record

list_all-at : {A : Type 0} (test : A → Bool) (xs : List A) (i : ℕ) (d : A) → list_all test xs ≡ true → i < length xs → test (get_or xs i d) ≡ true
list_all-at test [] i d all lt = absurd (omega arith)
list_all-at test (x ∷ xs) zero d all lt = (and_parts (test x) (list_all test xs) all).0
list_all-at test (x ∷ xs) (suc i) d all lt = list_all-at test xs i d (and_parts (test x) (list_all test xs) all).1 (omega arith)

allowed_by : (allowed scope empty : Bool) → cond allowed (cond scope (Some BadScope) (cond empty (Some EmptyRecord) None)) (Some BadLength) ≡ None → allowed ≡ true
allowed_by true scope empty e = refl
allowed_by false scope empty e = absurd cc

allowed_of : (t : Template) → IsAcceptable t → list_all has_allowed_length t.fields ≡ true
unfolding refusal_of
allowed_of t e = allowed_by (list_all has_allowed_length t.fields) (has_bad_scope (is_options t) t) (eqb (shortest_record t) 0) e

pub element_is : (e f : Element) → is_same_element e f ≡ true → e ≡ f
element_is e f is =
    let parts = and_parts (same_pen e.pen f.pen) (e.number == f.number) is in
    same_element e f (pen_is e.pen f.pen parts.0) (eqb-true e.number f.number parts.1)

-- a field of fixed length, and a value of that length
field_wide : (f : FieldSpec) (v : List ℕ) → 1 ≤ full_width f.element → has_allowed_length f ≡ true → fits_field f v ≡ true → Within (full_width f.element) (length v)
unfolding full_width
field_wide f v some allowed fits =
    let within = kind_within (kind_of f.element) f.length some allowed in
    let narrow = kind_narrow (kind_of f.element) in
    let fixed : is_variable f ≡ false = ne_eqb f.length 65535 (λ e. omega (arith, e, within.1, narrow)) in
    let long : length v ≡ f.length = eqb-true _ _ (rw fixed at fits) in
    (omega (arith, long, within.0), omega (arith, long, within.1))

some_field : FieldSpec
some_field = record { element = record { pen = None; number = 0 }; length = 0 }

pub first_wide : (e : Element) (r : DataRecord) (v : List ℕ) → IsSound r → first_value e r ≡ Some v → IsWide e v
first_wide e r v sound is some = by (position test fs) refl is where
  fs : List FieldSpec
  fs = r.template.fields

  test : FieldSpec → Bool
  test = λ f. is_same_element e f.element

  by : (o : Option ℕ) → position test fs ≡ o → (o >>= slice_get r.values) ≡ Some v → Within (full_width e) (length v)
  by None at is = absurd cc
  by (Some i) at is =
      let found = position-Some test fs i some_field at in
      let same : e ≡ (get_or fs i some_field).element = element_is e (get_or fs i some_field).element found.1 in
      let allowed = list_all-at has_allowed_length fs i some_field (allowed_of r.template sound.accepted) found.0 in
      let fits = fit_fields-at fs r.values i some_field v sound.fit found.0 in
      let value = get_or_from_slice_get r.values i v v is in
      let wide = field_wide (get_or fs i some_field) v (rw same at some) allowed (rw value at fits) in
      rw same wide

-- ---- numbers

pub below_width : (n len width : ℕ) → len ≤ width → n < 256 ^ len → n < 256 ^ width
below_width n len width within below = let more : 256 ^ len ≤ 256 ^ width = pow-le-pow_right (omega arith) within in omega (arith, more, below)

pub milliseconds_wide : full_width flow_start_milliseconds ≡ 8
unfolding full_width kind_of full_width_of registry
milliseconds_wide = refl

pub seconds_wide : full_width flow_start_seconds ≡ 4
unfolding full_width kind_of full_width_of registry
seconds_wide = refl

-- ---- the first value, from what was read

-- the place of the first field of the element
abbrev pub place_in : Element → List FieldSpec → Option ℕ
place_in e fields = position (λ f. is_same_element e f.element) fields

pub place_within : (e : Element) (r : DataRecord) (fields : List FieldSpec) (i : ℕ) → fields ≡ r.template.fields → place_in e fields ≡ Some i → i < length r.template.fields
place_within e r fields i same at =
    let found = position-Some (λ f. is_same_element e f.element) fields i some_field at in
    omega (arith, ap length same, found.0)

pub first_is : (e : Element) (r : DataRecord) (fields : List FieldSpec) (i : ℕ) (v : List ℕ) → IsSound r → fields ≡ r.template.fields → place_in e fields ≡ Some i → v ≡ get_or r.values i [] → first_value e r ≡ Some v
first_is e r fields i v sound same at is =
    let within : i < length r.values = omega (arith, place_within e r fields i same at, fit_fields-length r.template.fields r.values sound.fit) in
    let place : place_in e r.template.fields ≡ Some i = rw (← same) at in
    let value : slice_get r.values i ≡ Some v = slice_get-get_or r.values i [] within ∙ ap (λ x. Some x) (sym is) in
    rw place value

-- the kinds of key elements have a full width
kind_has_width : (kind : Kind) → is_key_kind kind ≡ true → 1 ≤ unwrap_or (full_width_of kind) 0
unfolding full_width_of
kind_has_width U8 is = omega arith
kind_has_width U16 is = omega arith
kind_has_width U32 is = omega arith
kind_has_width U64 is = omega arith
kind_has_width Ipv4 is = omega arith
kind_has_width Ipv6 is = omega arith
kind_has_width Mac is = omega arith
kind_has_width Seconds is = omega arith
kind_has_width Millis is = omega arith
kind_has_width Text is = absurd cc
kind_has_width Octets is = absurd cc

pub key_has_widths : (key : List Element) → AllByRecursion (λ e. is_key_kind (kind_of e) ≡ true) key → HaveWidths key
unfolding full_width
key_has_widths [] kinds = tt
key_has_widths (e ∷ es) kinds = (kind_has_width (kind_of e) kinds.0, key_has_widths es kinds.1)

pub counters_wide : (full_width octet_delta_count ≡ 8) × (full_width packet_delta_count ≡ 8) × (full_width delta_flow_count ≡ 8) × (full_width flow_end_milliseconds ≡ 8)
unfolding full_width kind_of full_width_of registry
counters_wide = (refl, refl, refl, refl)

-- ---- definitions

pub summed_from : (a : Aggregate) (name : List ℕ) (key : List Element) (interval grace : ℕ) → key ≡ a.key → interval ≡ a.interval → grace ≡ a.grace
    → IsRanged (length a.key) a.interval a.grace → AllByRecursion (λ e. is_key_kind (kind_of e) ≡ true) a.key
    → IsSummed (record { name = name; key = key; interval = interval; grace = grace })
summed_from a name key interval grace same_key same_interval same_grace ranged kinds =
    record { ranged = rw (same_key, same_interval, same_grace) ranged; widths = rw same_key (key_has_widths a.key kinds) }
