-- Where the values of a side stand, field by field.
use Rattle.std.proofs.Common.{All, ◌≡◌, ◌==◌, ℕ, ◌+◌, ◌-◌, ◌*◌, ◌<◌, ◌≤◌, Bool, true, false, cond, List, [], ◌∷◌, ◌++◌, length, take, drop, map, filter, get_or, Option, Some, None, IfSome, refl, sym, ap, subst, ◌∙◌, arith, length-append, length-drop, append-nil}
use Rattle.std.specs.List.{zip, fold}
use Rattle.std.proofs.lemmas.Bool.{eqb-true}
use Rattle.std.proofs.lemmas.List.{drop-drop, drop_at, drop_more, take_at, map_push, append-nil, length-take-le}
use Rattle.std.proofs.lemmas.List.Elements.{All-push, filter_more}
use Rattle.std.proofs.lemmas.List.Folds.{fold-map}
use Rattle.sequences.proofs.ListLaws.{drop_read}
use Rattle.ipfix_template.specs.declared.field.FieldSpec.{FieldSpec}
use Rattle.ipfix_template.specs.Template.{is_variable}
use Rattle.ipfix_template.specs.Values.{fits_field, value_text, record_text}
use Rattle.ipfix_template.specs.DataRecord.{DataRecord, IsSound}
use Rattle.ipfix_template.proofs.Encoding.{fit_fields-length, fit_fields-at}
use Rattle.policy_judge.specs.declared.occurrences.Side.{Side}
use Rattle.policy_judge.specs.Sides.{is_of}
use Rattle.policy_judge.proofs.PairLaws.{IsAt, pair_within, pair_at, all_pairs}
use Rattle.policy_judge.proofs.OccurrenceLaws.{field_at}
use Rattle.rule_table.specs.declared.place.Place.{Place}
use Rattle.rule_table.specs.declared.place.Place.TheVariants.{Narrow, Wide, Field}
use Rattle.sequences.specs.Octets.{be_value}
use Rattle.rule_table.specs.Classes.{class_of, digit_of, with_digit, class_key}
use Rattle.rule_table.specs.Places.{text_of, value_at, HasPlace, ShowsAt, ArePlaces, place_at, start_behind}

-- ---- where the value of a field starts

-- behind so many octets the values of the fields from this place on are left
pub record StartsAt (r : DataRecord) (i start : ℕ) : Type 0 where
  pub within : start ≤ length (text_of r)
  pub left : drop start (text_of r) ≡ record_text (drop i r.template.fields) (drop i r.values)

-- a value of fixed length, and what is left behind it
pub record IsFixed (r : DataRecord) (i start end : ℕ) : Type 0 where
  pub value : take (end - start) (drop start (text_of r)) ≡ get_or r.values i []
  pub next : StartsAt r (i + 1) end

fits_by : (b : Bool) (short : Bool) (n m : ℕ) → b ≡ false → cond b short (n == m) ≡ true → n ≡ m
fits_by true short n m fixed fits = absurd cc
fits_by false short n m fixed fits = eqb-true n m fits

pub fixed_value : (r : DataRecord) (f : FieldSpec) (i start : ℕ) → IsSound r → i < length r.template.fields → f ≡ get_or r.template.fields i f → is_variable f ≡ false → StartsAt r i start → IsFixed r i start (start + f.length)
fixed_value r f i start sound lt is fixed was =
    let fs = r.template.fields in
    let vs = r.values in
    let value = get_or vs i [] in
    let after = record_text (drop (i + 1) fs) (drop (i + 1) vs) in
    let even = fit_fields-length fs vs sound.fit in
    let fits : fits_field f value ≡ true = ap (λ (g : FieldSpec). fits_field g value) is ∙ fit_fields-at fs vs i f [] sound.fit lt in
    let wide : length value ≡ f.length = fits_by (is_variable f) _ (length value) f.length fixed fits in
    let plain : value_text f value ≡ value = rw fixed refl in
    let front : record_text (drop i fs) (drop i vs) ≡ value_text f value ++ after = rw (drop_read fs i f lt is, drop_more vs i [] (omega (arith, even, lt))) refl in
    let parts : drop start (text_of r) ≡ value ++ after = was.left ∙ front ∙ ap (λ (t : List ℕ). t ++ after) plain in
    let size : start + f.length - start ≡ f.length = omega arith in
    record {
      value = ap (λ (n : ℕ). take n (drop start (text_of r))) size ∙ ap (take f.length) parts ∙ take_at value after f.length wide;
      next = record {
        within = omega (arith, was.within, ap length parts, length-append value after, wide, length-drop start (text_of r));
        left = sym (drop-drop f.length start (text_of r)) ∙ ap (drop f.length) parts ∙ drop_at value after f.length wide;
      };
    }

pub starts : (r : DataRecord) → StartsAt r 0 0
starts r = record { within = omega arith; left = refl }

-- where the value of the field at this place starts in each record, if that is known
abbrev pub IsStart : List FieldSpec → ℕ → Option ℕ → Type 0
IsStart fields i start = (r : DataRecord) → IsSound r → r.template.fields ≡ fields → IfSome start (StartsAt r i)

pub first_start : (fields : List FieldSpec) → IsStart fields 0 (Some 0)
first_start fields r sound same = starts r

known_by : (r : DataRecord) (f : FieldSpec) (i start : ℕ) (b : Bool) → is_variable f ≡ b → (is_variable f ≡ false → StartsAt r (i + 1) (start + f.length)) → IfSome (cond b None (Some (start + f.length))) (StartsAt r (i + 1))
known_by r f i start true is next = tt
known_by r f i start false is next = next is

known_next : (r : DataRecord) (f : FieldSpec) (i : ℕ) → IsSound r → i < length r.template.fields → f ≡ get_or r.template.fields i f → (start : Option ℕ) → IfSome start (StartsAt r i) → IfSome (start_behind start f) (StartsAt r (i + 1))
known_next r f i sound lt is None was = tt
known_next r f i sound lt is (Some start) was =
    known_by r f i start (is_variable f) refl (λ fixed. (fixed_value r f i start sound lt is fixed was).next)

pub next_start : (fields : List FieldSpec) (f : FieldSpec) (i : ℕ) (start next : Option ℕ) → i < length fields → f ≡ get_or fields i f → next ≡ start_behind start f → IsStart fields i start → IsStart fields (i + 1) next
next_start fields f i start next lt is made was r sound same =
    let at = field_at r fields f i sound (sym same) lt is in
    subst (λ (s : Option ℕ). IfSome s (StartsAt r (i + 1))) (sym made) (known_next r f i sound at.within at.is start (was r sound same))

-- it lies in the first 65,535 * 65,535 octets
few_by : (i start : ℕ) (next : Option ℕ) → start ≤ 65535 * i → IfSome next (λ n. n ≤ start + 65535) → IfSome next (λ s. s ≤ 65535 * (i + 1))
few_by i start None few near = tt
few_by i start (Some next) few near = omega (arith, few, near)

pub next_few : (f : FieldSpec) (i : ℕ) (start next : Option ℕ) → next ≡ start_behind start f → IfSome start (λ s. IfSome next (λ n. n ≤ s + 65535)) → IfSome start (λ s. s ≤ 65535 * i) → IfSome next (λ s. s ≤ 65535 * (i + 1))
next_few f i None next made near few = rw made tt
next_few f i (Some start) next made near few = few_by i start next few near

-- ---- the place of a field's value

-- a record shows the field's value at its place
abbrev IsPlaceOf : DataRecord → ℕ → Place → Type 0
IsPlaceOf r i place = HasPlace r place × (value_at r place ≡ get_or r.values i [])

wide_by : (r : DataRecord) (f : FieldSpec) (i start : ℕ) (sixteen : Bool) → i < length r.template.fields → (f.length == 16) ≡ sixteen → (is_variable f ≡ false → IsFixed r i start (start + f.length)) → IsPlaceOf r i (cond sixteen (Wide start) (Field i))
wide_by r f i start true lt is fixed =
    let long : f.length ≡ 16 = eqb-true f.length 16 is in
    let there = fixed (ap (λ (n : ℕ). n == 65535) long) in
    let size : start + f.length - start ≡ 16 = omega (arith, long) in
    (omega (arith, there.next.within, long), ap (λ (n : ℕ). take n (drop start (text_of r))) (sym size) ∙ there.value)
wide_by r f i start false lt is fixed = (lt, refl)

place_by : (r : DataRecord) (f : FieldSpec) (i start : ℕ) (four : Bool) → i < length r.template.fields → (f.length == 4) ≡ four → (is_variable f ≡ false → IsFixed r i start (start + f.length)) → IsPlaceOf r i (cond four (Narrow start) (cond (f.length == 16) (Wide start) (Field i)))
place_by r f i start true lt is fixed =
    let long : f.length ≡ 4 = eqb-true f.length 4 is in
    let there = fixed (ap (λ (n : ℕ). n == 65535) long) in
    let size : start + f.length - start ≡ 4 = omega (arith, long) in
    (omega (arith, there.next.within, long), ap (λ (n : ℕ). take n (drop start (text_of r))) (sym size) ∙ there.value)
place_by r f i start false lt is fixed = wide_by r f i start (f.length == 16) lt refl fixed

shown_at : (r : DataRecord) (f : FieldSpec) (i : ℕ) → IsSound r → i < length r.template.fields → f ≡ get_or r.template.fields i f → (start : Option ℕ) → IfSome start (StartsAt r i) → IsPlaceOf r i (place_at start f i)
shown_at r f i sound lt is None was = (lt, refl)
shown_at r f i sound lt is (Some start) was =
    place_by r f i start (f.length == 4) lt refl (λ fixed. fixed_value r f i start sound lt is fixed was)

-- ---- the places of a side's values

-- the values of a side among fields with their values
abbrev pub side_values : Side → List (FieldSpec × List ℕ) → List (List ℕ)
side_values side entries = map (λ p. p.1) (filter (λ p. is_of side p.0.element) entries)

-- each record shows its addresses of the side there, as far as the fields before this place hold them
abbrev pub ArePlacesTo : Side → List FieldSpec → ℕ → List Place → Type 0
ArePlacesTo side fields i places = (r : DataRecord) → IsSound r → r.template.fields ≡ fields → ShowsAt r places (side_values side (take i (zip r.template.fields r.values)))

pub no_places : (side : Side) (fields : List FieldSpec) → ArePlacesTo side fields 0 []
no_places side fields r sound same = record { within = λ k d l. absurd (omega arith); values = refl }

own_by : (side : Side) (entries : List (FieldSpec × List ℕ)) (entry : FieldSpec × List ℕ) (b : Bool) → b ≡ true → map (λ (p : FieldSpec × List ℕ). p.1) (filter (λ p. is_of side p.0.element) entries ++ cond b (entry ∷ []) []) ≡ side_values side entries ++ entry.1 ∷ []
own_by side entries entry true e = map_push (λ (p : FieldSpec × List ℕ). p.1) (filter (λ p. is_of side p.0.element) entries) entry
own_by side entries entry false e = absurd cc

other_by : (side : Side) (entries : List (FieldSpec × List ℕ)) (entry : FieldSpec × List ℕ) (b : Bool) → b ≡ false → map (λ (p : FieldSpec × List ℕ). p.1) (filter (λ p. is_of side p.0.element) entries ++ cond b (entry ∷ []) []) ≡ side_values side entries
other_by side entries entry true e = absurd cc
other_by side entries entry false e = ap (map (λ (p : FieldSpec × List ℕ). p.1)) (append-nil (filter (λ p. is_of side p.0.element) entries))

-- the values of a side with one field more
more_values : (side : Side) (r : DataRecord) (f : FieldSpec) (i : ℕ) → IsAt r.template.fields r.values i f
    → side_values side (take (i + 1) (zip r.template.fields r.values))
    ≡ map (λ (p : FieldSpec × List ℕ). p.1) (filter (λ p. is_of side p.0.element) (take i (zip r.template.fields r.values)) ++ cond (is_of side f.element) ((f, get_or r.values i []) ∷ []) [])
more_values side r f i at =
    let entries = zip r.template.fields r.values in
    ap (map (λ (p : FieldSpec × List ℕ). p.1)) (filter_more (λ p. is_of side p.0.element) entries i (f, []) (pair_within r.template.fields r.values i f at)
    ∙ ap (λ (p : FieldSpec × List ℕ). filter (λ p. is_of side p.0.element) (take i entries) ++ cond (is_of side p.0.element) (p ∷ []) []) (pair_at r.template.fields r.values i f [] at))

pub own_place : (side : Side) (fields : List FieldSpec) (f : FieldSpec) (i : ℕ) (start : Option ℕ) (place : Place) (places more : List Place) → i < length fields → f ≡ get_or fields i f → is_of side f.element ≡ true → place ≡ place_at start f i → more ≡ places ++ place ∷ []
    → IsStart fields i start → ArePlacesTo side fields i places → ArePlacesTo side fields (i + 1) more
own_place side fields f i start place places more lt is own made grown known were r sound same =
    let at = field_at r fields f i sound (sym same) lt is in
    let before = were r sound same in
    let there : IsPlaceOf r i place = subst (λ (p : Place). IsPlaceOf r i p) (sym made) (shown_at r f i sound at.within at.is start (known r sound same)) in
    let all : ShowsAt r (places ++ place ∷ []) (side_values side (take (i + 1) (zip r.template.fields r.values))) = record {
      within = All-push (HasPlace r) places place before.within there.0;
      values =
          map_push (value_at r) places place
          ∙ ap (λ (vs : List (List ℕ)). vs ++ value_at r place ∷ []) before.values
          ∙ ap (λ (v : List ℕ). side_values side (take i (zip r.template.fields r.values)) ++ v ∷ []) there.1
          ∙ sym (more_values side r f i at ∙ own_by side (take i (zip r.template.fields r.values)) (f, get_or r.values i []) (is_of side f.element) own);
    } in
    subst (λ (ps : List Place). ShowsAt r ps (side_values side (take (i + 1) (zip r.template.fields r.values)))) (sym grown) all

pub other_place : (side : Side) (fields : List FieldSpec) (f : FieldSpec) (i : ℕ) (places more : List Place) → i < length fields → f ≡ get_or fields i f → is_of side f.element ≡ false → more ≡ places
    → ArePlacesTo side fields i places → ArePlacesTo side fields (i + 1) more
other_place side fields f i places more lt is other kept were r sound same =
    let at = field_at r fields f i sound (sym same) lt is in
    let before = were r sound same in
    let values = more_values side r f i at ∙ other_by side (take i (zip r.template.fields r.values)) (f, get_or r.values i []) (is_of side f.element) other in
    let all : ShowsAt r places (side_values side (take (i + 1) (zip r.template.fields r.values))) = record {
      within = before.within;
      values = before.values ∙ sym values;
    } in
    subst (λ (ps : List Place). ShowsAt r ps (side_values side (take (i + 1) (zip r.template.fields r.values)))) (sym kept) all

pub all_places : (side : Side) (fields : List FieldSpec) (i : ℕ) (places : List Place) → length fields ≤ i → ArePlacesTo side fields i places → ArePlaces side fields places
all_places side fields i places le were r sound same =
    let whole : take i (zip r.template.fields r.values) ≡ zip r.template.fields r.values = all_pairs r.template.fields r.values i (omega (arith, le, ap length same)) in
    subst (λ (es : List (FieldSpec × List ℕ)). ShowsAt r places (side_values side es)) whole (were r sound same)

-- ---- the key of what is shown

-- the key with the value at one place more
abbrev pub with_place : List ℕ → DataRecord → Option ℕ → Place → Option ℕ
with_place cuts r key place = with_digit key (digit_of cuts (value_at r place))

pub key_at_places : (cuts : List ℕ) (r : DataRecord) (places : List Place) → fold (with_place cuts r) (Some 1) places ≡ class_key cuts (map (value_at r) places)
key_at_places cuts r places =
    sym (fold-map (λ key v. with_digit key (digit_of cuts v)) (value_at r) (Some 1) places)
    ∙ sym (fold-map with_digit (digit_of cuts) (Some 1) (map (value_at r) places))

-- ---- the digit of an address of which the template fixes the place

pub four_digit : (cuts octets : List ℕ) → length octets ≡ 4 → 2 * class_of cuts (be_value octets) + 1 ≡ digit_of cuts octets
unfolding digit_of
four_digit cuts octets four = rw four refl

sixteen_digit : (cuts octets : List ℕ) → length octets ≡ 16 → 2 * class_of cuts (be_value octets) + 2 ≡ digit_of cuts octets
unfolding digit_of
sixteen_digit cuts octets sixteen = rw sixteen refl

-- so many octets from a place on
part_is : (n from : ℕ) (octets text : List ℕ) → octets ≡ text → take (from + n - from) (drop from octets) ≡ take n (drop from text)
part_is n from octets text is = let size : from + n - from ≡ n = omega arith in ap (λ (k : ℕ). take k (drop from octets)) size ∙ ap (λ (xs : List ℕ). take n (drop from xs)) is

pub part_long : (n from : ℕ) (text : List ℕ) → from + n ≤ length text → length (take n (drop from text)) ≡ n
part_long n from text within = length-take-le n (drop from text) (omega (arith, within, length-drop from text))

pub narrow_digit_of : (cuts : List ℕ) (r : DataRecord) (place : Place) (from : ℕ) (octets : List ℕ) (address digit : ℕ) → HasPlace r place → place ≡ Narrow from → octets ≡ text_of r
    → address ≡ be_value (take (from + 4 - from) (drop from octets)) → digit ≡ 2 * class_of cuts address + 1 → digit ≡ digit_of cuts (value_at r place)
narrow_digit_of cuts r place from octets address digit there is text number made =
    let within : HasPlace r (Narrow from) = subst (λ (p : Place). HasPlace r p) is there in
    let value = take 4 (drop from (text_of r)) in
    let same : address ≡ be_value value = number ∙ ap be_value (part_is 4 from octets (text_of r) text) in
    made ∙ ap (λ (n : ℕ). 2 * class_of cuts n + 1) same ∙ four_digit cuts value (part_long 4 from (text_of r) within) ∙ ap (λ (p : Place). digit_of cuts (value_at r p)) (sym is)

-- there is a place where an address of IPv4 is the only one
pub lone_has : (r : DataRecord) (places : List Place) (from : ℕ) → All (HasPlace r) places → places ≡ Narrow from ∷ [] → HasPlace r (Narrow from)
lone_has r places from there lone = subst (λ ps. All (HasPlace r) ps) lone there 0 (Narrow from) (omega arith)

-- the key of an address of IPv4 at the only place
pub lone_narrow_key : (cuts : List ℕ) (r : DataRecord) (places : List Place) (from : ℕ) (octets : List ℕ) (address digit : ℕ) (key : Option ℕ) → All (HasPlace r) places → places ≡ Narrow from ∷ [] → octets ≡ text_of r
    → address ≡ be_value (take (from + 4 - from) (drop from octets)) → digit ≡ 2 * class_of cuts address + 1 → key ≡ with_digit (Some 1) digit → key ≡ class_key cuts (map (value_at r) places)
lone_narrow_key cuts r places from octets address digit key there lone text number made with =
    with ∙ ap (with_digit (Some 1)) (narrow_digit_of cuts r (Narrow from) from octets address digit (lone_has r places from there lone) refl text number made)
    ∙ ap (λ ps. class_key cuts (map (value_at r) ps)) (sym lone)

pub wide_digit_of : (cuts : List ℕ) (r : DataRecord) (place : Place) (from : ℕ) (octets : List ℕ) (digit : ℕ) → HasPlace r place → place ≡ Wide from → octets ≡ text_of r
    → digit ≡ 2 * class_of cuts (be_value (take (from + 16 - from) (drop from octets))) + 2 → digit ≡ digit_of cuts (value_at r place)
wide_digit_of cuts r place from octets digit there is text made =
    let within : HasPlace r (Wide from) = subst (λ (p : Place). HasPlace r p) is there in
    let value = take 16 (drop from (text_of r)) in
    made ∙ ap (λ (xs : List ℕ). 2 * class_of cuts (be_value xs) + 2) (part_is 16 from octets (text_of r) text) ∙ sixteen_digit cuts value (part_long 16 from (text_of r) within) ∙ ap (λ (p : Place). digit_of cuts (value_at r p)) (sym is)
