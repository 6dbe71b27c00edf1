-- The record of a closed group is a sound record.
use Rattle.std.proofs.Common.{◌≡◌, ℕ, suc, ◌+◌, ◌*◌, ◌<◌, ◌≤◌, Bool, true, false, cond, List, [], ◌∷◌, ◌++◌, length, get_or, take, drop, Option, Some, None, refl, sym, ap, ◌∙◌, arith, add-one, append_assoc, length-append, length-drop, drop-cons}
use Rattle.std.specs.Prelude.{◌==◌, unwrap_or}
use Rattle.std.specs.List.{list_all, flat_map, sum_by, AllByRecursion}
use Rattle.std.proofs.lemmas.Bool.{and_parts, and_from, eqb-true, eq-eqb, ne_eqb}
use Rattle.std.proofs.lemmas.List.{length-map, length-take-le}
use Rattle.std.proofs.lemmas.List.Sums.{sum_by-append, sum_by-cons}
use Rattle.std.proofs.lemmas.List.Concat.{flat_map-cons}
use Rattle.sequences.specs.Octets.{be_octets}
use Rattle.sequences.proofs.OctetLaws.{length-be_octets}
use Rattle.ipfix_element.specs.Element.{Element}
use Rattle.ipfix_element.specs.declared.kind.Kind.{Kind}
use Rattle.ipfix_element.specs.declared.kind.Kind.TheVariants.{U8, U16, U32, U64, Ipv4, Ipv6, Mac, Seconds, Millis, Text, Octets}
use Rattle.ipfix_element.specs.Kinds.{kind_of, full_width_of, is_allowed_length}
use Rattle.ipfix_element.specs.Registry.{registry}
use Rattle.ipfix_template.specs.declared.field.FieldSpec.{FieldSpec}
use Rattle.ipfix_template.specs.declared.template.Template.{Template}
use Rattle.ipfix_template.specs.declared.template.Refused.TheVariants.{BadLength, EmptyRecord}
use Rattle.ipfix_template.specs.Template.{is_variable, least_octets, has_allowed_length, refusal_of, IsAcceptable, specifier, specifier_of}
use Rattle.ipfix_template.specs.Values.{fits_field, fit_fields, value_text, record_text}
use Rattle.ipfix_template.specs.DataRecord.{IsSound}
use Rattle.ipfix_template.proofs.Encoding.{octets_of_record}
use Rattle.policy_text.specs.Policies.{Aggregate}
use Rattle.flow_aggregate.specs.declared.sums.Sums.{Sums}
use Rattle.flow_aggregate.specs.Values.{full_width, flow_start_milliseconds, flow_end_milliseconds, octet_delta_count, packet_delta_count, delta_flow_count}
use Rattle.flow_aggregate.specs.Groups.{Group, IsGroup, HaveWidths}
use Rattle.flow_aggregate.specs.Closed.{HasTemplate, field, key_fields, sum_fields, closed_template, key_values, number_values, closed_values, closed_record, end_of}
use Rattle.flow_aggregate.proofs.WidthLaws.{kind_narrow}

-- ---- the key's values, one more

pub values_step : (key : List Element) (i : ℕ) (e : Element) (rest : List ℕ) (values all : List (List ℕ)) → i < length key → e ≡ get_or key i e
    → values ++ key_values (drop i key) rest ≡ all
    → (values ++ take (full_width e) rest ∷ []) ++ key_values (drop (i + 1) key) (drop (full_width e) rest) ≡ all
values_step key i e rest values all lt is due =
    let here : drop i key ≡ e ∷ drop (i + 1) key = rw add-one (drop-cons key i e lt ∙ ap (λ x. x ∷ drop (suc i) key) (sym is)) in
    append_assoc values (take (full_width e) rest ∷ []) (key_values (drop (i + 1) key) (drop (full_width e) rest))
    ∙ (rw here at due)

pub long_step : (key : List Element) (i : ℕ) (e : Element) (rest : List ℕ) → i < length key → e ≡ get_or key i e
    → length rest ≡ sum_by full_width (drop i key) → length rest ≡ full_width e + sum_by full_width (drop (i + 1) key)
long_step key i e rest lt is long =
    let here : drop i key ≡ e ∷ drop (i + 1) key = rw add-one (drop-cons key i e lt ∙ ap (λ x. x ∷ drop (suc i) key) (sym is)) in
    long ∙ ap (λ (k : List Element). sum_by full_width k) here ∙ sum_by-cons full_width e (drop (i + 1) key)

-- ---- fields and values

allowed_at : (kind : Kind) → 1 ≤ unwrap_or (full_width_of kind) 0 → is_allowed_length kind (unwrap_or (full_width_of kind) 0) ≡ true
unfolding full_width_of is_allowed_length
allowed_at U8 some = refl
allowed_at U16 some = refl
allowed_at U32 some = refl
allowed_at U64 some = refl
allowed_at Ipv4 some = refl
allowed_at Ipv6 some = refl
allowed_at Mac some = refl
allowed_at Seconds some = refl
allowed_at Millis some = refl
allowed_at Text some = refl
allowed_at Octets some = refl

key_allowed : (e : Element) → 1 ≤ full_width e → has_allowed_length (field e (full_width e)) ≡ true
unfolding full_width
key_allowed e some = allowed_at (kind_of e) some

sums_allowed : list_all has_allowed_length sum_fields ≡ true
unfolding kind_of registry is_allowed_length
sums_allowed = refl

all_allowed : (key : List Element) → HaveWidths key → list_all has_allowed_length (key_fields key ++ sum_fields) ≡ true
all_allowed [] widths = sums_allowed
all_allowed (e ∷ es) widths = and_from (has_allowed_length (field e (full_width e))) _ (key_allowed e widths.0) (all_allowed es widths.1)

-- fields of fixed length, of at most 16 octets
abbrev AreNarrow : List FieldSpec → Type 0
AreNarrow fs = AllByRecursion (λ f. f.length ≤ 16) fs

narrow_width : (e : Element) → full_width e ≤ 16
unfolding full_width
narrow_width e = kind_narrow (kind_of e)

all_narrow : (key : List Element) → AreNarrow (key_fields key ++ sum_fields)
all_narrow [] = (omega arith, (omega arith, (omega arith, (omega arith, (omega arith, tt)))))
all_narrow (e ∷ es) = (narrow_width e, all_narrow es)

fixed : (f : FieldSpec) → f.length ≤ 16 → is_variable f ≡ false
fixed f narrow = ne_eqb f.length 65535 (λ e. omega (arith, e, narrow))

fits_fixed : (f : FieldSpec) (v : List ℕ) → f.length ≤ 16 → length v ≡ f.length → fits_field f v ≡ true
fits_fixed f v narrow long = rw (fixed f narrow) (eq-eqb (length v) f.length long)

number_fits : (e : Element) (n : ℕ) → fits_field (field e 8) (be_octets 8 n) ≡ true
number_fits e n = fits_fixed (field e 8) (be_octets 8 n) (omega arith) (length-be_octets 8 n)

numbers_fit : (a b c d e : ℕ) → fit_fields sum_fields (number_values (a ∷ b ∷ c ∷ d ∷ e ∷ [])) ≡ true
numbers_fit a b c d e =
    and_from _ _ (number_fits flow_start_milliseconds a) (and_from _ _ (number_fits flow_end_milliseconds b)
    (and_from _ _ (number_fits octet_delta_count c) (and_from _ _ (number_fits packet_delta_count d) (and_from _ _ (number_fits delta_flow_count e) refl))))

all_fit : (key : List Element) (octets : List ℕ) (others : List (List ℕ)) → length octets ≡ sum_by full_width key → fit_fields sum_fields others ≡ true
    → fit_fields (key_fields key ++ sum_fields) (key_values key octets ++ others) ≡ true
all_fit [] octets others long fit = fit
all_fit (e ∷ es) octets others long fit =
    let parts : length octets ≡ full_width e + sum_by full_width es = long ∙ sum_by-cons full_width e es in
    let here = length-take-le (full_width e) octets (omega (arith, parts)) in
    let after = length-drop (full_width e) octets in
    and_from (fits_field (field e (full_width e)) (take (full_width e) octets)) _
    (fits_fixed (field e (full_width e)) (take (full_width e) octets) (narrow_width e) here)
    (all_fit es (drop (full_width e) octets) others (omega (arith, parts, after)) fit)

-- ---- octets

few_octets : (fs : List FieldSpec) (vs : List (List ℕ)) → AreNarrow fs → fit_fields fs vs ≡ true → length (record_text fs vs) ≤ 16 * length fs
few_octets [] vs narrow fit = omega arith
few_octets (f ∷ fs) [] narrow fit = omega arith
few_octets (f ∷ fs) (v ∷ vs) narrow fit =
    let parts = and_parts (fits_field f v) (fit_fields fs vs) fit in
    let is = fixed f narrow.0 in
    let long : length v ≡ f.length = eqb-true _ _ (rw is at parts.0) in
    let text : value_text f v ≡ v = rw is refl in
    let size : length (value_text f v) ≡ f.length = ap length text ∙ long in
    let rest = few_octets fs vs narrow.1 parts.1 in
    let all = length-append (value_text f v) (record_text fs vs) in
    omega (arith, size, rest, all, narrow.0)

specifier_size : (pen : Option ℕ) (number len : ℕ) → length (specifier_of pen number len) ≤ 8
specifier_size None number len =
    omega (arith, length-append (be_octets 2 number) (be_octets 2 len), length-be_octets 2 number, length-be_octets 2 len)
specifier_size (Some pen) number len =
    let front = length-append (be_octets 2 (number + 32768)) (be_octets 2 len) in
    let all = length-append (be_octets 2 (number + 32768) ++ be_octets 2 len) (be_octets 4 pen) in
    omega (arith, front, all, length-be_octets 2 (number + 32768), length-be_octets 2 len, length-be_octets 4 pen)

few_specifiers : (fs : List FieldSpec) → length (flat_map specifier fs) ≤ 8 * length fs
few_specifiers [] = omega arith
few_specifiers (f ∷ fs) =
    let rest = few_specifiers fs in
    let all = ap length (flat_map-cons specifier f fs) ∙ length-append (specifier f) (flat_map specifier fs) in
    let one = specifier_size f.element.pen f.element.number f.length in
    omega (arith, rest, all, one)

-- ---- the record

accepts : (allowed empty : Bool) → allowed ≡ true → empty ≡ false → cond allowed (cond empty (Some EmptyRecord) None) (Some BadLength) ≡ None
accepts true false a e = refl
accepts true true a e = absurd cc
accepts false empty a e = absurd cc

some_octets : (key : List Element) → (sum_by least_octets (key_fields key ++ sum_fields) == 0) ≡ false
some_octets key =
    let all = sum_by-append least_octets (key_fields key) sum_fields in
    let last : sum_by least_octets sum_fields ≡ 40 = refl in
    ne_eqb _ 0 (λ e. omega (arith, all, last, e))

accepted : (a : Aggregate) → HaveWidths a.key → IsAcceptable (closed_template a)
unfolding refusal_of closed_template
accepted a widths =
    accepts (list_all has_allowed_length (key_fields a.key ++ sum_fields)) (sum_by least_octets (key_fields a.key ++ sum_fields) == 0) (all_allowed a.key widths) (some_octets a.key)

pub closed_sound : (g : Group) (s : Sums) → IsGroup g → IsSound (closed_record g s)
unfolding closed_template closed_values
closed_sound g s is =
    let key = g.definition.key in
    let fs = key_fields key ++ sum_fields in
    let fit = all_fit key g.key (number_values (g.start ∷ end_of g ∷ s.octets ∷ s.packets ∷ s.flows ∷ [])) is.key (numbers_fit g.start (end_of g) s.octets s.packets s.flows) in
    let count : length fs ≡ length key + 5 = length-append (key_fields key) sum_fields ∙ ap (λ n. n + 5) (length-map key (λ e. field e (full_width e))) in
    let few = is.summed.ranged.elements.1 in
    let head = octets_of_record 256 (closed_template g.definition) in
    let specs = few_specifiers fs in
    let text = few_octets fs (closed_values g s) (all_narrow key) fit in
    record {
      accepted = accepted g.definition is.summed.widths;
      fit = fit;
      template_fits = omega (arith, head, specs, count, few);
      record_fits = omega (arith, text, count, few);
    }

-- the same of a template and values that are found
pub found_sound : (g : Group) (s : Sums) (t : Template) (vs : List (List ℕ)) → IsGroup g → t ≡ closed_template g.definition → vs ≡ closed_values g s
    → IsSound (record { template = t; values = vs })
found_sound g s t vs is is-t is-vs = rw (is-t, is-vs) (closed_sound g s is)

pub values_found : (g : Group) (s : Sums) (key : List Element) (octets : List ℕ) (start interval : ℕ) (values all : List (List ℕ))
    → key ≡ g.definition.key → octets ≡ g.key → start ≡ g.start → interval ≡ g.definition.interval
    → values ≡ key_values key octets → all ≡ values ++ number_values (start ∷ (start + interval * 1000) ∷ s.octets ∷ s.packets ∷ s.flows ∷ []) → all ≡ closed_values g s
unfolding closed_values
values_found g s key octets start interval values all is-key is-octets is-start is-interval is-values is-all =
    rw (is-all, is-values, is-key, is-octets, is-start, is-interval) refl

-- of a copy of the key
pub template_of_copy : (key copy : List Element) (t : Template) → copy ≡ key → HasTemplate key t → HasTemplate copy t
template_of_copy key copy t same is = rw same is
