-- Subscriptions that no rule tells apart: what is disclosed to them, and their groups.
use Rattle.std.proofs.Common.{◌≡◌, ◌==◌, ◌&&◌, ◌||◌, not, true, false, Bool, cond, ℕ, zero, suc, ◌+◌, ◌<◌, ◌≤◌, List, [], ◌∷◌, ◌++◌, length, map, take, get_or, slice_get, Option, Some, None, refl, sym, ap, ◌∙◌, subst, arith}
use Rattle.std.specs.List.{find, enumerate_from, flat_map, AllByRecursion}
use Rattle.std.specs.Str.{bytes_eq}
use Rattle.std.proofs.lemmas.List.{map-append, length-map, take_all}
use Rattle.std.proofs.lemmas.List.Concat.{flat_map-cons}
use Rattle.std.proofs.lemmas.Bool.{or_parts}
use Rattle.std.proofs.lemmas.Bool.Decides.{same_from_decides}
use Rattle.std.proofs.lemmas.Slice.Eq.{bytes_eq-Decides}
use Rattle.std.proofs.Math.ListN.{get_or-map}
use Rattle.ipfix_element.specs.Element.{Element}
use Rattle.ipfix_template.specs.DataRecord.{DataRecord}
use Rattle.policy_text.specs.declared.rule.Rule.{Rule}
use Rattle.policy_judge.specs.Match.{is_met, is_on_records, is_element, covers, matches_record, matches_field, element_at}
use Rattle.policy_judge.specs.Verdicts.{record_verdict_by, element_verdict_by, record_verdict_of, element_verdict_of}
use Rattle.policy_judge.specs.declared.verdict.RecordVerdict.{RecordVerdict}
use Rattle.policy_judge.specs.declared.verdict.ElementVerdict.{ElementVerdict}
use Rattle.policy_judge.specs.Laws.{concerns}
use Rattle.flow_anonymize.specs.Outcome.{Outcome, Decision, passed, decision_of}
use Rattle.flow_anonymize.specs.Remaining.{places_of, verdicts_of}
use Rattle.flow_anonymize.specs.Disclosed.{disclosure_of, transformed, by_verdict}
use Rattle.mediator_tables.specs.declared.served.Served.{Served}
use Rattle.mediator_tables.specs.declared.share.Share.{Share}
use Rattle.mediator_tables.specs.SubscriptionTable.{shown}
use Rattle.mediator_shares.specs.InForce.{InForce}
use Rattle.mediator_shares.specs.Sharing.{given_by, share_of, shares_of}
use Rattle.mediator_shares.specs.Deciding.{decision_for}
use Rattle.mediator_shares.specs.Alike.{is_who, is_told_apart, AreJudgedAlike, IsLed, AreLed, LeadsUnnamed, IsGrouping}
use Rattle.mediator_shares.proofs.SharingLaws.{as_share, more_served}

-- ---- what is disclosed

all_weaker : {A : Type 0} (P Q : A → Type 0) → ((x : A) → P x → Q x) → (xs : List A) → AllByRecursion P xs → AllByRecursion Q xs
all_weaker P Q f [] all = tt
all_weaker P Q f (x ∷ xs) all = (f x all.0, all_weaker P Q f xs all.1)

-- the first that passes, by two tests that say the same of each
found_alike : {A : Type 0} (f g : A → Bool) (n : ℕ) (xs : List A) → AllByRecursion (λ x. f x ≡ g x) xs → find (λ y. f y.1) (enumerate_from n xs) ≡ find (λ y. g y.1) (enumerate_from n xs)
found_alike f g n [] same = refl
found_alike f g n (x ∷ xs) same =
    ap (λ b. cond b (Some (n, x)) (find (λ y. f y.1) (enumerate_from (n + 1) xs))) same.0 ∙ ap (cond (g x) (Some (n, x))) (found_alike f g (n + 1) xs same.1)

map_alike : {A B : Type 0} (f g : A → B) → ((x : A) → f x ≡ g x) → (xs : List A) → map f xs ≡ map g xs
map_alike f g same [] = refl
map_alike f g same (x ∷ xs) = ap (λ y. y ∷ map f xs) (same x) ∙ ap (λ ys. g x ∷ ys) (map_alike f g same xs)

flat_alike : {A B : Type 0} (f g : A → List B) → ((x : A) → f x ≡ g x) → (xs : List A) → flat_map f xs ≡ flat_map g xs
flat_alike f g same [] = refl
flat_alike f g same (x ∷ xs) =
    flat_map-cons f x xs ∙ ap (λ y. y ++ flat_map f xs) (same x) ∙ ap (λ ys. g x ++ ys) (flat_alike f g same xs) ∙ sym (flat_map-cons g x xs)

record_alike : (a b : List ℕ) (domain : ℕ) (r : DataRecord) (rule : Rule) → concerns a rule ≡ concerns b rule → matches_record a domain r rule ≡ matches_record b domain r rule
record_alike a b domain r rule same = ap (λ (w : Bool). is_on_records rule.action && ((w && is_met (λ d. d == domain) rule.domain) && covers r rule)) same

field_alike : (a b : List ℕ) (domain : ℕ) (r : DataRecord) (element : Option Element) (rule : Rule) → concerns a rule ≡ concerns b rule → matches_field a domain r element rule ≡ matches_field b domain r element rule
field_alike a b domain r element rule same =
    ap (λ (w : Bool). not (is_on_records rule.action) && (is_met (is_element element) rule.element && ((w && is_met (λ d. d == domain) rule.domain) && covers r rule))) same

-- to two that no rule tells apart the same is disclosed
pub same_outcome : (a b : List ℕ) (domain : ℕ) (r : DataRecord) (rules : List Rule) → AreJudgedAlike rules a b → disclosure_of a domain r rules ≡ disclosure_of b domain r rules
same_outcome a b domain r rules so =
    ap (λ (v : RecordVerdict). by_verdict v (transformed r (verdicts_of a domain r rules))) on_record
    ∙ ap (λ (vs : List ElementVerdict). by_verdict (record_verdict_of b domain r rules) (transformed r vs)) on_fields
  where
    on_record : record_verdict_of a domain r rules ≡ record_verdict_of b domain r rules
    on_record = ap record_verdict_by (found_alike (matches_record a domain r) (matches_record b domain r) 1 rules
        (all_weaker (λ (rule : Rule). concerns a rule ≡ concerns b rule) (λ (rule : Rule). matches_record a domain r rule ≡ matches_record b domain r rule) (record_alike a b domain r) rules so.each))

    on_fields : verdicts_of a domain r rules ≡ verdicts_of b domain r rules
    on_fields = map_alike (λ place. element_verdict_of a domain r place rules) (λ place. element_verdict_of b domain r place rules)
        (λ place. ap element_verdict_by (found_alike (matches_field a domain r (element_at r place)) (matches_field b domain r (element_at r place)) 1 rules
        (all_weaker (λ (rule : Rule). concerns a rule ≡ concerns b rule) (λ (rule : Rule). matches_field a domain r (element_at r place) rule ≡ matches_field b domain r (element_at r place) rule) (field_alike a b domain r (element_at r place)) rules so.each)))
        (places_of r)

-- ---- whom no rule names

same_met : (a b : List ℕ) (w : Option (List ℕ)) → is_who a w ≡ false → is_who b w ≡ false → is_met (bytes_eq a) w ≡ is_met (bytes_eq b) w
same_met a b None x y = refl
same_met a b (Some n) x y = x ∙ sym y

unnamed_each : (rules : List Rule) (a b : List ℕ) → is_told_apart a rules ≡ false → is_told_apart b rules ≡ false → AllByRecursion (λ rule. concerns a rule ≡ concerns b rule) rules
unnamed_each [] a b x y = tt
unnamed_each (rule ∷ rules) a b x y =
    let p = or_parts (is_who a rule.who) (is_told_apart a rules) x in
    let q = or_parts (is_who b rule.who) (is_told_apart b rules) y in (
      same_met a b rule.who p.0 q.0,
      unnamed_each rules a b p.1 q.1,
    )

pub unnamed_alike : (rules : List Rule) (a b : List ℕ) → is_told_apart a rules ≡ false → is_told_apart b rules ≡ false → AreJudgedAlike rules a b
unnamed_alike rules a b x y = record { each = unnamed_each rules a b x y }

same_each : (rules : List Rule) (a : List ℕ) → AllByRecursion (λ rule. concerns a rule ≡ concerns a rule) rules
same_each [] a = tt
same_each (rule ∷ rules) a = (refl, same_each rules a)

-- ---- the names that rules have, one rule after another

bytes_same : (a b : List ℕ) → bytes_eq a b ≡ bytes_eq b a
bytes_same a b = same_from_decides (bytes_eq a b) (bytes_eq b a) (bytes_eq-Decides a b) (
  (λ yes. sym ((bytes_eq-Decides b a).0 yes)),
  (λ same. (bytes_eq-Decides b a).1 (sym same)),
)

put_either : (was b : Bool) → cond b true was ≡ (was || b)
put_either true true = refl
put_either true false = refl
put_either false true = refl
put_either false false = refl

-- a name is put beside those that are there
pub put_some : (name other : List ℕ) (who : Option (List ℕ)) (was now : Bool) → now ≡ cond (bytes_eq other name) true was → who ≡ Some other → now ≡ (was || is_who name who)
put_some name other who was now is at =
    is ∙ ap (λ (b : Bool). cond b true was) (bytes_same other name) ∙ put_either was (bytes_eq name other) ∙ ap (λ (w : Option (List ℕ)). was || is_who name w) (sym at)

-- or none is
pub put_none : (name : List ℕ) (who : Option (List ℕ)) (was : Bool) → who ≡ None → was ≡ (was || is_who name who)
put_none name who was at = put_either was false ∙ ap (λ (w : Option (List ℕ)). was || is_who name w) (sym at)

-- ---- places of leaders

got_front : {A : Type 0} (xs more : List A) (n : ℕ) (x : A) → slice_get xs n ≡ Some x → slice_get (xs ++ more) n ≡ Some x
got_front [] more n x at = absurd cc
got_front (y ∷ ys) more zero x at = at
got_front (y ∷ ys) more (suc n) x at = got_front ys more n x at

got_last : {A : Type 0} (xs : List A) (x : A) → slice_get (xs ++ x ∷ []) (length xs) ≡ Some x
got_last [] x = refl
got_last (y ∷ ys) x = got_last ys x

got_within : {A : Type 0} (xs : List A) (n : ℕ) (x : A) → slice_get xs n ≡ Some x → n < length xs
got_within [] n x at = absurd cc
got_within (y ∷ ys) zero x at = omega arith
got_within (y ∷ ys) (suc n) x at = omega (arith, got_within ys n x at)

led_more : (rules : List Rule) (leaders more served : List Served) (places : List ℕ) → AreLed rules leaders served places → AreLed rules (leaders ++ more) served places
led_more rules leaders more [] [] so = tt
led_more rules leaders more [] (place ∷ places) so = absurd so
led_more rules leaders more (who ∷ served) [] so = absurd so
led_more rules leaders more (who ∷ served) (place ∷ places) so = (
  record { leader = so.0.leader; there = got_front leaders more place so.0.leader so.0.there; alike = so.0.alike },
  led_more rules leaders more served places so.1,
)

led_push : (rules : List Rule) (leaders served : List Served) (places : List ℕ) (who : Served) (place : ℕ) → AreLed rules leaders served places → IsLed rules leaders who place → AreLed rules leaders (served ++ who ∷ []) (places ++ place ∷ [])
led_push rules leaders [] [] who place so one = (one, tt)
led_push rules leaders [] (p ∷ places) who place so one = absurd so
led_push rules leaders (w ∷ served) [] who place so one = absurd so
led_push rules leaders (w ∷ served) (p ∷ places) who place so one = (so.0, led_push rules leaders served places who place so.1 one)

pub led_at : (rules : List Rule) (leaders served : List Served) (places : List ℕ) (k : ℕ) (who other : Served) (place none : ℕ) → AreLed rules leaders served places → k < length served → who ≡ get_or served k other → place ≡ get_or places k none → IsLed rules leaders who place
led_at rules leaders [] [] k who other place none so l at at2 = absurd (omega (arith, l))
led_at rules leaders [] (p ∷ places) k who other place none so l at at2 = absurd so
led_at rules leaders (w ∷ served) [] k who other place none so l at at2 = absurd so
led_at rules leaders (w ∷ served) (p ∷ places) zero who other place none so l at at2 =
    subst (λ (x : Served). IsLed rules leaders x place) (sym at) (subst (λ (n : ℕ). IsLed rules leaders w n) (sym at2) so.0)
led_at rules leaders (w ∷ served) (p ∷ places) (suc k) who other place none so l at at2 = led_at rules leaders served places k who other place none so.1 (omega (arith, l)) at at2

pub led_many : (rules : List Rule) (leaders served : List Served) (places : List ℕ) → AreLed rules leaders served places → length places ≡ length served
led_many rules leaders [] [] so = refl
led_many rules leaders [] (place ∷ places) so = absurd so
led_many rules leaders (who ∷ served) [] so = absurd so
led_many rules leaders (who ∷ served) (place ∷ places) so = ap (λ n. suc n) (led_many rules leaders served places so.1)

pub led_within : (rules : List Rule) (leaders served : List Served) (places : List ℕ) (n : ℕ) → AreLed rules leaders served places → n ≡ length leaders → AllByRecursion (λ place. place < n) places
led_within rules leaders [] [] n so many = tt
led_within rules leaders [] (place ∷ places) n so many = absurd so
led_within rules leaders (who ∷ served) [] n so many = absurd so
led_within rules leaders (who ∷ served) (place ∷ places) n so many =
    let first : place < n = omega (arith, many, got_within leaders place so.0.leader so.0.there) in (
      first,
      led_within rules leaders served places n so.1 many,
    )

-- which is within, at each place
pub within_at : (places : List ℕ) (n k place none : ℕ) → AllByRecursion (λ place. place < n) places → k < length places → place ≡ get_or places k none → place < n
within_at [] n k place none all l at = absurd (omega (arith, l))
within_at (p ∷ places) n zero place none all l at = subst (λ (x : ℕ). x < n) (sym at) all.0
within_at (p ∷ places) n (suc k) place none all l at = within_at places n k place none all.1 (omega (arith, l)) at

-- ---- groups, one subscription after another

pub grouping_start : (rules : List Rule) → IsGrouping rules [] None [] []
grouping_start rules = record { led = tt; first = λ place at. absurd cc }

leads_front : (rules : List Rule) (leaders more : List Served) (place : ℕ) → LeadsUnnamed rules leaders place → LeadsUnnamed rules (leaders ++ more) place
leads_front rules leaders more place so = record { leader = so.leader; there = got_front leaders more place so.leader so.there; unnamed = so.unnamed }

-- one more that leads itself
one_leads : (rules : List Rule) (leaders served : List Served) (places : List ℕ) (who : Served) (n : ℕ) → AreLed rules leaders served places → n ≡ length leaders → AreLed rules (leaders ++ who ∷ []) (served ++ who ∷ []) (places ++ n ∷ [])
one_leads rules leaders served places who n led many =
    led_push rules (leaders ++ who ∷ []) served places who n (led_more rules leaders (who ∷ []) served places led)
    (record {
      leader = who;
      there = ap (λ i. slice_get (leaders ++ who ∷ []) i) many ∙ got_last leaders who;
      alike = record { each = same_each rules who.name.now };
    })

-- one that is served alone leads itself
pub alone_leads : (rules : List Rule) (served : List Served) → length served ≡ 1 → AreLed rules served served (0 ∷ [])
alone_leads rules [] one = absurd (omega (arith, one))
alone_leads rules (who ∷ []) one = one_leads rules [] [] [] who 0 tt refl
alone_leads rules (who ∷ another ∷ more) one = absurd (omega (arith, one))

pub grouping_named : (rules : List Rule) (leaders served : List Served) (unnamed : Option ℕ) (places : List ℕ) (who : Served) (n : ℕ) → IsGrouping rules leaders unnamed served places → n ≡ length leaders
    → IsGrouping rules (leaders ++ who ∷ []) unnamed (served ++ who ∷ []) (places ++ n ∷ [])
grouping_named rules leaders served unnamed places who n so many = record {
  led = one_leads rules leaders served places who n so.led many;
  first = λ place at. leads_front rules leaders (who ∷ []) place (so.first place at);
}

-- the first that no rule names
pub grouping_first : (rules : List Rule) (leaders served : List Served) (unnamed : Option ℕ) (places : List ℕ) (who : Served) (n : ℕ) → IsGrouping rules leaders unnamed served places → n ≡ length leaders → is_told_apart who.name.now rules ≡ false
    → IsGrouping rules (leaders ++ who ∷ []) (Some n) (served ++ who ∷ []) (places ++ n ∷ [])
grouping_first rules leaders served unnamed places who n so many alone = record {
  led = one_leads rules leaders served places who n so.led many;
  first = λ place at. record { leader = who; there = ap (λ i. slice_get (leaders ++ who ∷ []) i) (sym (some_same n place at) ∙ many) ∙ got_last leaders who; unnamed = alone };
}
  where
    some_same : (a b : ℕ) → Some a ≡ Some b → a ≡ b
    some_same a b same = cc

-- another one is led by it
pub grouping_next : (rules : List Rule) (leaders served : List Served) (unnamed : Option ℕ) (places : List ℕ) (who : Served) (place : ℕ) → IsGrouping rules leaders unnamed served places → unnamed ≡ Some place → is_told_apart who.name.now rules ≡ false
    → IsGrouping rules leaders unnamed (served ++ who ∷ []) (places ++ place ∷ [])
grouping_next rules leaders served unnamed places who place so at alone =
    let first = so.first place at in
    record {
      led = led_push rules leaders served places who place so.led (record { leader = first.leader; there = first.there; alike = unnamed_alike rules first.leader.name.now who.name.now first.unnamed alone });
      first = so.first;
    }

-- the same where the lists are written otherwise
pub grouping_is : (rules : List Rule) (leaders other : List Served) (unnamed : Option ℕ) (served : List Served) (others places : List ℕ) → leaders ≡ other → places ≡ others → IsGrouping rules other unnamed served others → IsGrouping rules leaders unnamed served places
grouping_is rules leaders other unnamed served others places same same2 so =
    subst (λ (ls : List Served). IsGrouping rules ls unnamed served places) (sym same) (subst (λ (ps : List ℕ). IsGrouping rules other unnamed served ps) (sym same2) so)

pub led_is_written : (rules : List Rule) (leaders other served : List Served) (places others : List ℕ) → leaders ≡ other → places ≡ others → AreLed rules other served others → AreLed rules leaders served places
led_is_written rules leaders other served places others same same2 so =
    subst (λ (ls : List Served). AreLed rules ls served places) (sym same) (subst (λ (ps : List ℕ). AreLed rules other served ps) (sym same2) so)

-- ---- what is the same for a leader and for those that it leads

got_mapped : {B : Type 0} (f : Served → B) (leaders : List Served) (n : ℕ) (leader : Served) (other : B) → slice_get leaders n ≡ Some leader → get_or (map f leaders) n other ≡ f leader
got_mapped f [] n leader other at = absurd cc
got_mapped f (y ∷ ys) zero leader other at = ap f (some_is at) where
  some_is : {p q : Served} → Some p ≡ Some q → p ≡ q
  some_is e = cc
got_mapped f (y ∷ ys) (suc n) leader other at = got_mapped f ys n leader other at

-- what stands at a leader's place
pub led_is : {B : Type 0} (f : Served → B) (xs : List B) (rules : List Rule) (leaders : List Served) (who : Served) (place : ℕ) (x other : B) (so : IsLed rules leaders who place) → xs ≡ map f leaders → x ≡ get_or xs place other → x ≡ f so.leader
led_is f xs rules leaders who place x other so all at = at ∙ ap (λ l. get_or l place other) all ∙ got_mapped f leaders place so.leader other so.there

-- the same where the list is seen otherwise
pub led_seen : {A B : Type 0} (g : A → B) (f : Served → B) (xs : List A) (rules : List Rule) (leaders : List Served) (who : Served) (place : ℕ) (x other : A) (so : IsLed rules leaders who place) → map g xs ≡ map f leaders → x ≡ get_or xs place other → g x ≡ f so.leader
led_seen g f xs rules leaders who place x other so all at = led_is f (map g xs) rules leaders who place (g x) (g other) so all (ap g at ∙ sym (get_or-map g xs place other))

-- ---- what was decided for each leader

pub deciding_step : (domain : ℕ) (f : InForce) (r : DataRecord) (ds ds2 : List Decision) (leaders : List Served) (k : ℕ) (who other : Served) (d : Decision) → ds ≡ map (decision_for domain f r) (take k leaders) → k < length leaders → who ≡ get_or leaders k other
    → d ≡ decision_for domain f r who → ds2 ≡ ds ++ d ∷ [] → ds2 ≡ map (decision_for domain f r) (take (k + 1) leaders)
deciding_step domain f r ds ds2 leaders k who other d so within at is grown =
    let t : Served → Decision = decision_for domain f r in
    grown ∙ ap (λ l. l ++ d ∷ []) so ∙ ap (λ x. map t (take k leaders) ++ x ∷ []) is ∙ sym (map-append t (take k leaders) (who ∷ [])) ∙ ap (map t) (sym (more_served leaders k who other within at))

pub decided_all : (domain : ℕ) (f : InForce) (r : DataRecord) (ds : List Decision) (leaders : List Served) (k : ℕ) → ds ≡ map (decision_for domain f r) (take k leaders) → length leaders ≤ k → ds ≡ map (decision_for domain f r) leaders
decided_all domain f r ds leaders k so over = so ∙ ap (map (decision_for domain f r)) (take_all k leaders over)

-- there is one for each that is served
pub decided_within : (domain : ℕ) (f : InForce) (r : DataRecord) (ds : List Decision) (leaders served : List Served) (places : List ℕ) (k none : ℕ) → ds ≡ map (decision_for domain f r) leaders → AreLed f.policy.rules leaders served places → k < length served
    → get_or places k none < length ds
decided_within domain f r ds leaders served places k none all led l =
    let many : length ds ≡ length leaders = ap length all ∙ length-map leaders (decision_for domain f r) in
    within_at places (length ds) k (get_or places k none) none (led_within f.policy.rules leaders served places (length ds) led many) (omega (arith, l, led_many f.policy.rules leaders served places led)) refl

-- is decided for each that it leads
pub decided_led : (domain : ℕ) (f : InForce) (r : DataRecord) (ds : List Decision) (leaders : List Served) (who : Served) (place : ℕ) (d other : Decision) → IsLed f.policy.rules leaders who place → ds ≡ map (decision_for domain f r) leaders → d ≡ get_or ds place other
    → d ≡ decision_for domain f r who
decided_led domain f r ds leaders who place d other so all at =
    led_is (decision_for domain f r) ds f.policy.rules leaders who place d other so all at
    ∙ ap (λ (o : Outcome). decision_of o) (same_outcome so.leader.name.now who.name.now domain r f.policy.rules so.alike)

-- one there is at each place
pub record IsAt (leaders : List Served) (k : ℕ) : Type 0 where
  pub who : Served
  pub is : who ≡ get_or leaders k who

pub at_place : (leaders : List Served) (k : ℕ) → k < length leaders → IsAt leaders k
at_place [] k l = absurd (omega (arith, l))
at_place (who ∷ leaders) zero l = record { who = who; is = refl }
at_place (who ∷ leaders) (suc k) l = let rest = at_place leaders k (omega (arith, l)) in record { who = rest.who; is = rest.is }

-- ---- what is given to each leader, spread

pub given_each : (given : List Share) (domain : ℕ) (f : InForce) (records : List DataRecord) (leaders : List Served) → map shown given ≡ shares_of domain f records leaders → length given ≡ length leaders
given_each given domain f records leaders all = sym (length-map given shown) ∙ ap length all ∙ length-map leaders (share_of domain f records)

pub spread_step : (given shares shares2 : List Share) (domain : ℕ) (f : InForce) (records : List DataRecord) (leaders served : List Served) (places : List ℕ) (k place none : ℕ) (who other : Served) (from another share : Share)
    → map shown given ≡ shares_of domain f records leaders → AreLed f.policy.rules leaders served places → map shown shares ≡ shares_of domain f records (take k served) → k < length served → who ≡ get_or served k other → place ≡ get_or places k none
    → from ≡ get_or given place another → shown share ≡ as_share who.sub (shown from).1 → shares2 ≡ shares ++ share ∷ [] → map shown shares2 ≡ shares_of domain f records (take (k + 1) served)
spread_step given shares shares2 domain f records leaders served places k place none who other from another share all led so within at at2 at3 shows grown =
    let s : Served → ℕ × List DataRecord = share_of domain f records in
    let one : IsLed f.policy.rules leaders who place = led_at f.policy.rules leaders served places k who other place none led within at at2 in
    let same : flat_map (given_by domain f one.leader.name.now) records ≡ flat_map (given_by domain f who.name.now) records =
    flat_alike (given_by domain f one.leader.name.now) (given_by domain f who.name.now) (λ r. ap passed (same_outcome one.leader.name.now who.name.now domain r f.policy.rules one.alike)) records in
    ap (map shown) grown ∙ map-append shown shares (share ∷ []) ∙ ap (λ l. l ++ shown share ∷ []) so
    ∙ ap (λ x. map s (take k served) ++ x ∷ []) (shows ∙ ap (λ (x : ℕ × List DataRecord). as_share who.sub x.1) (led_seen shown s given f.policy.rules leaders who place from another one all at3) ∙ ap (as_share who.sub) same)
    ∙ sym (map-append s (take k served) (who ∷ [])) ∙ ap (map s) (sym (more_served served k who other within at))
