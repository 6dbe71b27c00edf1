-- A message holds at most as many records as it has octets.
use Rattle.std.proofs.Common.{◌≡◌, ℕ, zero, suc, ◌+◌, ◌-◌, ◌≤◌, Bool, true, false, ltb, eqb, List, [], ◌∷◌, length, take, drop, Option, Some, None, Result, Ok, Err, refl, ◌∙◌, subst, arith, length-append, length-drop}
use Rattle.std.specs.Prelude.{◌||◌}
use Rattle.std.specs.List.{sum_by}
use Rattle.std.proofs.lemmas.Bool.{ltb-false, or_parts, cond_both}
use Rattle.std.proofs.lemmas.List.{length-take, length-map}
use Rattle.std.proofs.lemmas.List.Sums.{sum_by-append, sum_by-cons}
use Rattle.sequences.specs.Octets.{number_at}
use Rattle.sequences.specs.Sequence.{Front, End, Fault, Next, with_front, read_on, read_within, read_all}
use Rattle.ipfix_template.specs.declared.template.Template.{Template}
use Rattle.ipfix_template.specs.declared.template.Refused.{Refused}
use Rattle.ipfix_template.specs.Template.{refusal_of, shortest_record}
use Rattle.ipfix_template.specs.Values.{values_at, found_record, record_front, records_in}
use Rattle.ipfix_message.specs.declared.header.Header.{Header}
use Rattle.ipfix_message.specs.declared.fault.Fault.{Fault as DecodeError}
use Rattle.ipfix_message.specs.declared.item.Item.{Item}
use Rattle.ipfix_message.specs.declared.item.Item.TheVariants.{Define, Withdraw, WithdrawAll, Refused as RefusedItem, DataSet, Skipped}
use Rattle.ipfix_message.specs.Records.{set_id, bare_item, judged_item, template_item}
use Rattle.ipfix_message.specs.Reading.{read_header, template_at, found_template, template_front, set_items, found_set, set_front, after_header, items_of}
use Rattle.ipfix_session.specs.declared.fault.Fault.{Fault as ReadError}
use Rattle.ipfix_session.specs.Contents.{Contents, both, record_of, rows_of, set_contents, item_contents, contents_after}
use Rattle.ipfix_session.specs.InForce.{template_in_force}
use Rattle.sequences.specs.Results.{◌>>=◌}

-- ---- what is read weighs no more than the octets, if what stands at the front does

abbrev FrontWeighs : {A E : Type 0} → (A → ℕ) → ℕ → Front A E → Type 0
FrontWeighs w total End = Unit {0}
FrontWeighs w total (Fault e) = Unit {0}
FrontWeighs w total (Next found rest) = sum_by w found + length rest ≤ total

abbrev ReadWeighs : {A E : Type 0} → (A → ℕ) → ℕ → Result (List A) E → Type 0
ReadWeighs w total (Ok found) = sum_by w found ≤ total
ReadWeighs w total (Err e) = Unit {0}

weigh_on : {A E : Type 0} (w : A → ℕ) (total : ℕ) (f : Front A E) (after : List ℕ → Result (List A) E) → FrontWeighs w total f → ((rest : List ℕ) → ReadWeighs w (length rest) (after rest)) → ReadWeighs w total (read_on f after)
weigh_on w total End after here others = omega arith
weigh_on w total (Fault e) after here others = tt
weigh_on {A} {E} w total (Next found rest) after here others = joined (after rest) (others rest) where
  joined : (r : Result (List A) E) → ReadWeighs w (length rest) r → ReadWeighs w total (with_front found r)
  joined (Ok more) h = omega (arith, sum_by-append w found more, here, h)
  joined (Err e) h = tt

weigh_within : {A E : Type 0} (w : A → ℕ) (front : List ℕ → Front A E) → ((octets : List ℕ) → FrontWeighs w (length octets) (front octets)) → (steps : ℕ) (octets : List ℕ) → ReadWeighs w (length octets) (read_within steps front octets)
unfolding read_within
weigh_within w front each zero octets = omega arith
weigh_within w front each (suc steps) octets = weigh_on w (length octets) (front octets) (read_within steps front) (each octets) (weigh_within w front each steps)

-- ---- one at a time, no more are read than there are steps

abbrev FrontIsOne : {A E : Type 0} → Front A E → Type 0
FrontIsOne End = Unit {0}
FrontIsOne (Fault e) = Unit {0}
FrontIsOne (Next found rest) = length found ≤ 1

abbrev ReadsAtMost : {A E : Type 0} → ℕ → Result (List A) E → Type 0
ReadsAtMost most (Ok found) = length found ≤ most
ReadsAtMost most (Err e) = Unit {0}

count_on : {A E : Type 0} (most : ℕ) (f : Front A E) (after : List ℕ → Result (List A) E) → FrontIsOne f → ((rest : List ℕ) → ReadsAtMost most (after rest)) → ReadsAtMost (suc most) (read_on f after)
count_on most End after here others = omega arith
count_on most (Fault e) after here others = tt
count_on {A} {E} most (Next found rest) after here others = joined (after rest) (others rest) where
  joined : (r : Result (List A) E) → ReadsAtMost most r → ReadsAtMost (suc most) (with_front found r)
  joined (Ok more) h = omega (arith, length-append found more, here, h)
  joined (Err e) h = tt

count_within : {A E : Type 0} (front : List ℕ → Front A E) → ((octets : List ℕ) → FrontIsOne (front octets)) → (steps : ℕ) (octets : List ℕ) → ReadsAtMost steps (read_within steps front octets)
unfolding read_within
count_within front each zero octets = omega arith
count_within front each (suc steps) octets = count_on steps (front octets) (read_within steps front) (each octets) (count_within front each steps)

record_is_one : (t : Template) (octets : List ℕ) → FrontIsOne (record_front t octets)
unfolding record_front
record_is_one t octets = cond_both (ltb (length octets) (shortest_record t)) _ _ FrontIsOne (λ _. tt) (λ _. one (values_at t.fields octets)) where
  one : (found : Option (List (List ℕ) × List ℕ)) → FrontIsOne (found_record found)
  one None = tt
  one (Some found) = omega arith

pub rows_few : (t : Template) (octets : List ℕ) → ReadsAtMost (suc (length octets)) (records_in t octets)
unfolding read_all
rows_few t octets = count_within (record_front t) (record_is_one t) (suc (length octets)) octets

-- ---- a Data Set weighs its octets and one more, which is less than what it takes

abbrev weight : Item → ℕ
weight (DataSet id start len) = len + 1
weight (Define id t) = 0
weight (Withdraw id) = 0
weight (WithdrawAll options) = 0
weight (RefusedItem id why) = 0
weight (Skipped set) = 0

-- items of templates weigh nothing
abbrev FrontIsLight : Front Item DecodeError → Type 0
FrontIsLight End = Unit {0}
FrontIsLight (Fault e) = Unit {0}
FrontIsLight (Next found rest) = sum_by weight found ≡ 0

abbrev ReadIsLight : Result (List Item) DecodeError → Type 0
ReadIsLight (Ok found) = sum_by weight found ≡ 0
ReadIsLight (Err e) = Unit {0}

light_on : (f : Front Item DecodeError) (after : List ℕ → Result (List Item) DecodeError) → FrontIsLight f → ((rest : List ℕ) → ReadIsLight (after rest)) → ReadIsLight (read_on f after)
light_on End after here others = refl
light_on (Fault e) after here others = tt
light_on (Next found rest) after here others = joined (after rest) (others rest) where
  joined : (r : Result (List Item) DecodeError) → ReadIsLight r → ReadIsLight (with_front found r)
  joined (Ok more) h = omega (arith, sum_by-append weight found more, here, h)
  joined (Err e) h = tt

light_within : (front : List ℕ → Front Item DecodeError) → ((octets : List ℕ) → FrontIsLight (front octets)) → (steps : ℕ) (octets : List ℕ) → ReadIsLight (read_within steps front octets)
unfolding read_within
light_within front each zero octets = refl
light_within front each (suc steps) octets = light_on (front octets) (read_within steps front) (each octets) (light_within front each steps)

template_is_light : (options : Bool) (octets : List ℕ) → FrontIsLight (template_front options octets)
unfolding template_front
template_is_light options octets =
    cond_both (ltb (length octets) 4) _ _ FrontIsLight (λ _. tt)
    (λ _. cond_both (eqb (number_at 2 2 octets) 0) _ _ FrontIsLight (λ _. bare (number_at 0 2 octets))
    (λ _. found (template_at options (number_at 2 2 octets) (drop 4 octets)))) where
      bare : (id : ℕ) → sum_by weight (bare_item options id ∷ []) ≡ 0
      bare id = sum_by-cons weight (bare_item options id) [] ∙ cond_both (eqb id (set_id options)) _ _ (λ i. weight i + 0 ≡ 0) (λ _. refl) (λ _. cond_both (ltb id 256) _ _ (λ i. weight i + 0 ≡ 0) (λ _. refl) (λ _. refl))

      judged : (id : ℕ) (t : Template) (why : Option Refused) → weight (judged_item id t why) + 0 ≡ 0
      judged id t None = refl
      judged id t (Some why) = refl

      found : (r : Option (Template × List ℕ)) → FrontIsLight (found_template options (number_at 0 2 octets) r)
      found None = tt
      found (Some f) = sum_by-cons weight (template_item options (number_at 0 2 octets) f.0) [] ∙ judged (number_at 0 2 octets) f.0 (refusal_of (number_at 0 2 octets) options f.0)

-- the items of a set weigh no more than its content and one
abbrev SetWeighs : ℕ → Result (List Item) DecodeError → Type 0
SetWeighs n (Ok found) = sum_by weight found ≤ n + 1
SetWeighs n (Err e) = Unit {0}

set_weighs : (id place : ℕ) (content : List ℕ) → SetWeighs (length content) (set_items id place content)
unfolding set_items read_all
set_weighs id place content =
    cond_both (eqb id 2) _ _ (SetWeighs (length content)) (λ _. lighter _ (light_within (template_front false) (template_is_light false) (suc (length content)) content))
    (λ _. cond_both (eqb id 3) _ _ (SetWeighs (length content)) (λ _. lighter _ (light_within (template_front true) (template_is_light true) (suc (length content)) content))
    (λ _. cond_both (ltb id 256) _ _ (SetWeighs (length content)) (λ _. omega (arith, sum_by-cons weight (Skipped id) [])) (λ _. omega (arith, sum_by-cons weight (DataSet id place (length content)) [])))) where
      lighter : (r : Result (List Item) DecodeError) → ReadIsLight r → SetWeighs (length content) r
      lighter (Ok found) h = omega (arith, h)
      lighter (Err e) h = tt

length_taken : (n : ℕ) (octets : List ℕ) → length (take n octets) ≤ n
length_taken n octets = omega (arith, length-take n octets)

set_front_weighs : (total : ℕ) (octets : List ℕ) → FrontWeighs weight (length octets) (set_front total octets)
unfolding set_front
set_front_weighs total octets =
    cond_both (eqb (length octets) 0) _ _ (FrontWeighs weight (length octets)) (λ _. tt)
    (λ _. cond_both (ltb (length octets) 4) _ _ (FrontWeighs weight (length octets)) (λ _. tt)
    (λ _. cond_both (ltb (number_at 2 2 octets) 4 || ltb (length octets) (number_at 2 2 octets)) _ _ (FrontWeighs weight (length octets)) (λ _. tt)
    (λ fits. found (take (number_at 2 2 octets - 4) (drop 4 octets)) (length_taken (number_at 2 2 octets - 4) (drop 4 octets)) (set_items (number_at 0 2 octets) (total - length octets + 4) (take (number_at 2 2 octets - 4) (drop 4 octets))) (set_weighs (number_at 0 2 octets) (total - length octets + 4) (take (number_at 2 2 octets - 4) (drop 4 octets))) fits)))
  where
    found : (content : List ℕ) → length content ≤ number_at 2 2 octets - 4 → (r : Result (List Item) DecodeError) → SetWeighs (length content) r → (ltb (number_at 2 2 octets) 4 || ltb (length octets) (number_at 2 2 octets)) ≡ false → FrontWeighs weight (length octets) (found_set r (drop (number_at 2 2 octets) octets))
    found content long (Err e) h fits = tt
    found content long (Ok items) h fits =
        let both = or_parts (ltb (number_at 2 2 octets) 4) (ltb (length octets) (number_at 2 2 octets)) fits in
        let least = ltb-false (number_at 2 2 octets) 4 both.0 in
        let most = ltb-false (length octets) (number_at 2 2 octets) both.1 in
        omega (arith, least, most, h, long, length-drop (number_at 2 2 octets) octets)

-- ---- what items hold

-- no more records than this are held
abbrev pub HoldAtMost : ℕ → Result Contents ReadError → Type 0
HoldAtMost most (Ok c) = length c.records ≤ most
HoldAtMost most (Err e) = Unit {0}

item_holds : (older : List Item) (message : List ℕ) (item : Item) → HoldAtMost (weight item) (item_contents older message item)
item_holds older message (DataSet id start len) = set (template_in_force id older) where
  rows : (t : Template) (r : Result (List (List (List ℕ))) (Unit {0})) → ReadsAtMost (suc (length (take len (drop start message)))) r → HoldAtMost (len + 1) (rows_of t r)
  rows t (Ok found) h = omega (arith, h, length-map found (record_of t), length_taken len (drop start message))
  rows t (Err e) h = tt

  set : (t : Option Template) → HoldAtMost (len + 1) (set_contents t (take len (drop start message)))
  set None = omega arith
  set (Some t) = rows t (records_in t (take len (drop start message))) (rows_few t (take len (drop start message)))
item_holds older message (Skipped set) = omega arith
item_holds older message (RefusedItem id why) = omega arith
item_holds older message (Define id t) = omega arith
item_holds older message (Withdraw id) = omega arith
item_holds older message (WithdrawAll options) = omega arith

contents_hold : (older : List Item) (message : List ℕ) (items : List Item) → HoldAtMost (sum_by weight items) (contents_after older message items)
unfolding contents_after
contents_hold older message [] = omega arith
contents_hold older message (item ∷ items) = joined (item_contents older message item) (contents_after (item ∷ older) message items) (item_holds older message item) (contents_hold (item ∷ older) message items) where
  joined : (first others : Result Contents ReadError) → HoldAtMost (weight item) first → HoldAtMost (sum_by weight items) others → HoldAtMost (sum_by weight (item ∷ items)) (first >>= λ f. others >>= λ o. Ok (both f o))
  joined (Err e) others a b = tt
  joined (Ok f) (Err e) a b = tt
  joined (Ok f) (Ok o) a b = omega (arith, a, b, sum_by-cons weight item items, length-append f.records o.records)

-- ---- a message's records

-- the items of a message hold at most as many records as it has octets
pub few_in : (older : List Item) (message : List ℕ) (said : List Item) → items_of message ≡ Ok said → HoldAtMost (length message) (contents_after older message said)
unfolding items_of read_all
few_in older message said is = by_header (read_header message) is
  where
    weaker : (r : Result Contents ReadError) (few most : ℕ) → few ≤ most → HoldAtMost few r → HoldAtMost most r
    weaker (Ok c) few most less h = omega (arith, less, h)
    weaker (Err e) few most less h = tt

    light : (r : Result (List Item) DecodeError) → ReadWeighs weight (length (drop 16 message)) r → r ≡ Ok said → sum_by weight said ≤ length message
    light r h same = omega (arith, subst (λ (x : Result (List Item) DecodeError). ReadWeighs weight (length (drop 16 message)) x) same h, length-drop 16 message)

    by_header : (header : Result Header DecodeError) → after_header message header ≡ Ok said → HoldAtMost (length message) (contents_after older message said)
    by_header (Ok header) same =
        weaker (contents_after older message said) (sum_by weight said) (length message)
        (light (read_all (set_front (length message)) (drop 16 message)) (weigh_within weight (set_front (length message)) (set_front_weighs (length message)) (suc (length (drop 16 message))) (drop 16 message)) same)
        (contents_hold older message said)
    by_header (Err e) same = absurd cc
