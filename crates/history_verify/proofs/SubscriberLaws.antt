-- Subscribers that stand for a history stand for one entry more.
use Rattle.std.proofs.Common.{◌≡◌, ℕ, zero, suc, ◌+◌, ◌<◌, ◌≤◌, Bool, true, false, List, [], ◌∷◌, ◌++◌, length, map, Option, Some, None, refl, sym, ap, ◌∙◌, subst, arith, inl, inr}
use Rattle.std.specs.Prelude.{◌≢◌, ◌⊎◌, ◌&&◌, is_some, IfNone, slice_get, not}
use Rattle.std.specs.List.{flat_map, list_any}
use Rattle.std.specs.Ordering.{nat_cmp}
use Rattle.std.specs.Set.{remove_key}
use Rattle.std.specs.BTreeMap.{is_at, get_by_text}
use Rattle.mediator_history.specs.Numbers.{is_in}
use Rattle.mediator_history.proofs.ListFilters.{distinct_filter}
use Rattle.mediator_history.proofs.CutLaws.{is_served-cuts}
use Rattle.history_verify.proofs.KeyLaws.{any_is_in, removed_is, numbers_apart}
use Rattle.std.proofs.lemmas.List.{length-map}
use Rattle.ipfix_template.specs.DataRecord.{DataRecord}
use Rattle.event_journal.specs.declared.entry.Entry.{Entry}
use Rattle.event_journal.specs.declared.entry.Entry.TheVariants.{Cut}
use Rattle.mediator_history.specs.Subscriptions.{named, name_of, begins, is_live, switched, is_served, subscribed_in, subscriptions_begun, served}
use Rattle.mediator_history.specs.Counting.{counted_at}
use Rattle.mediator_history.specs.Disclosed.{given_at, disclosed}
use Rattle.mediator_history.proofs.EntryLaws.{served_same, served-cut, is_in-served, given_same}
use Rattle.mediator_history.proofs.CountingLaws.{counted_same}
use Rattle.history_verify.specs.declared.count.SubscriptionCount.{SubscriptionCount}
use Rattle.history_verify.specs.declared.subscribers.Subscribers.{Subscribers}
use Rattle.history_verify.specs.Counts.{count_in}
use Rattle.history_verify.specs.Parts.{AreNumbersFrom, live_number, NeverBegan, AreSubscribers, SameSubscribers}
use Rattle.history_verify.proofs.Stays.{last_stays, list_stays, count_stays}

pub map_alike : {A B : Type 0} (f g : A → B) → ((x : A) → f x ≡ g x) → (xs : List A) → map f xs ≡ map g xs
map_alike f g same [] = refl
map_alike {A} {B} f g same (x ∷ xs) = ap (λ (y : B). y ∷ map f xs) (same x) ∙ ap (λ (t : List B). g x ∷ t) (map_alike f g same xs)

pub counted_alike : (g h : List Entry) (sub : ℕ) → name_of sub g ≡ name_of sub h → disclosed sub g ≡ disclosed sub h → count_in g sub ≡ count_in h sub
counted_alike g h sub name given =
    ap (λ (n : List ℕ). record { sub = sub; name = n; disclosed = length (disclosed sub g) }) name
    ∙ ap (λ (l : List DataRecord). record { sub = sub; name = name_of sub h; disclosed = length l }) given

-- an entry that neither begins nor ends a subscription and gives nothing
pub subscribers_stay : (t : Subscribers) (h : List Entry) (x : Entry) → ((sub : ℕ) → begins sub x ≡ None) → ((sub : ℕ) → switched sub x ≡ None) → ((sub : ℕ) → named sub x ≡ None) → subscribed_in x ≡ []
    → ((sub : ℕ) → given_at sub h x ≡ []) → ((sub : ℕ) → counted_at sub h x ≡ []) → AreSubscribers t h → AreSubscribers t (h ++ x ∷ [])
subscribers_stay t h x begin switch name none given counts so = record {
  begun = so.begun ∙ sym (ap (map (count_in new)) same ∙ map_alike (count_in new) (count_in h) (λ sub. counted_alike new h sub (names sub) (given_same sub h x (given sub))) (flat_map subscribed_in h));
  numbers = subst (AreNumbersFrom 1) (sym same) so.numbers;
  named = λ n sub is. let old = so.named n sub is in (live sub ∙ old.0, names sub ∙ old.1);
  live = λ sub is. subst (λ (n : List ℕ). live_number t n ≡ Some sub) (sym (names sub)) (so.live sub (sym (live sub) ∙ is));
  served_are = so.served_are ∙ sym (served_same h x switch none);
  unbegun = λ sub above.
      let un = so.unbegun sub (subst (λ (n : ℕ). (sub ≡ 0) ⊎ (n < sub)) (count_stays subscribed_in h x none) above) in
      record {
        gone = live sub ∙ un.gone;
        nameless = names sub ∙ un.nameless;
        unserved = last_stays (switched sub) false h x (switch sub) ∙ un.unserved;
        nothing = given_same sub h x (given sub) ∙ un.nothing;
        uncounted = counted_same sub h x (counts sub) ∙ un.uncounted;
      };
} where
  new : List Entry
  new = h ++ x ∷ []

  same : flat_map subscribed_in (h ++ x ∷ []) ≡ flat_map subscribed_in h
  same = list_stays subscribed_in h x none

  names : (sub : ℕ) → name_of sub (h ++ x ∷ []) ≡ name_of sub h
  names sub = last_stays (named sub) [] h x (name sub)

  live : (sub : ℕ) → is_live sub (h ++ x ∷ []) ≡ is_live sub h
  live sub = last_stays (begins sub) false h x (begin sub)

-- ---- room is made

pub subscribers_same : (t u : Subscribers) (h : List Entry) → SameSubscribers t u → AreSubscribers t h → AreSubscribers u h
subscribers_same t u h same so = record {
  begun = same.begun ∙ so.begun;
  numbers = so.numbers;
  named = λ name sub is. so.named name sub (sym (same.names name) ∙ is);
  live = λ sub is. same.names (name_of sub h) ∙ so.live sub is;
  served_are = same.served_are ∙ so.served_are;
  unbegun = so.unbegun;
}

-- ---- a subscription is cut

pub subscribers_cut : (t u : Subscribers) (h : List Entry) (sub : ℕ) → AreSubscribers t h → u.begun ≡ t.begun → u.live ≡ t.live → u.served.keys ≡ remove_key (is_at (nat_cmp sub)) t.served.keys → AreSubscribers u (h ++ Cut sub ∷ [])
subscribers_cut t u h sub so begun live fewer = record {
  begun = ap (λ v. v.items) begun ∙ so.begun ∙ sym (ap (map (count_in new)) same ∙ map_alike (count_in new) (count_in h) (λ q. counted_alike new h q (names q) (given_same q h (Cut sub) refl)) (flat_map subscribed_in h));
  numbers = subst (AreNumbersFrom 1) (sym same) so.numbers;
  named = λ n q is. let old = so.named n q (ap (λ m. get_by_text m n) (sym live) ∙ is) in (lives q ∙ old.0, names q ∙ old.1);
  live = λ q is. ap (λ m. get_by_text m (name_of q new)) live ∙ subst (λ (n : List ℕ). live_number t n ≡ Some q) (sym (names q)) (so.live q (sym (lives q) ∙ is));
  served_are = fewer ∙ ap (remove_key (is_at (nat_cmp sub))) so.served_are ∙ removed_is sub (served h) (distinct_filter (λ q. is_served q h) (flat_map subscribed_in h) (numbers_apart 1 (flat_map subscribed_in h) so.numbers)) ∙ sym (served-cut h sub);
  unbegun = λ q above.
      let un = so.unbegun q (subst (λ (n : ℕ). (q ≡ 0) ⊎ (n < q)) (count_stays subscribed_in h (Cut sub) refl) above) in
      record {
        gone = lives q ∙ un.gone;
        nameless = names q ∙ un.nameless;
        unserved = is_served-cuts q h (sub ∷ []) ∙ ap (λ (b : Bool). b && not (is_in q (sub ∷ []))) un.unserved;
        nothing = given_same q h (Cut sub) refl ∙ un.nothing;
        uncounted = counted_same q h (Cut sub) refl ∙ un.uncounted;
      };
} where
  new : List Entry
  new = h ++ Cut sub ∷ []

  same : flat_map subscribed_in (h ++ Cut sub ∷ []) ≡ flat_map subscribed_in h
  same = list_stays subscribed_in h (Cut sub) refl

  names : (q : ℕ) → name_of q (h ++ Cut sub ∷ []) ≡ name_of q h
  names q = last_stays (named q) [] h (Cut sub) refl

  lives : (q : ℕ) → is_live q (h ++ Cut sub ∷ []) ≡ is_live q h
  lives q = last_stays (begins q) false h (Cut sub) refl

pub is_among : (t : Subscribers) (h : List Entry) (sub : ℕ) → AreSubscribers t h → list_any (is_at (nat_cmp sub)) t.served.keys ≡ is_served sub h
is_among t h sub so = ap (list_any (is_at (nat_cmp sub))) so.served_are ∙ any_is_in sub (served h) ∙ is_in-served sub h

-- ---- the count of a subscription

some_is : {A : Type 0} (x y : A) → Some x ≡ Some y → x ≡ y
some_is x y e = cc

-- the count at a place is that of the subscription with the next number
pub count_found : (h : List Entry) (n : ℕ) (subs : List ℕ) (place : ℕ) (count : SubscriptionCount) → AreNumbersFrom n subs → slice_get (map (count_in h) subs) place ≡ Some count → (count ≡ count_in h (n + place)) × (place < length subs)
count_found h n [] place count numbers is = absurd cc
count_found h n (x ∷ subs) zero count numbers is = (sym (some_is (count_in h x) count is) ∙ ap (count_in h) (omega (arith, numbers.0)), omega arith)
count_found h n (x ∷ subs) (suc place) count numbers is =
    let rest = count_found h (n + 1) subs place count numbers.1 is in
    (rest.0 ∙ ap (count_in h) (omega arith), omega (arith, rest.1))

-- where there is no count, there is no subscription
pub none_found : {A : Type 0} (xs : List A) (place : ℕ) → slice_get xs place ≡ None → length xs ≤ place
none_found [] place is = omega arith
none_found (x ∷ xs) zero is = absurd cc
none_found (x ∷ xs) (suc place) is = omega (arith, none_found xs place is)

pub named_at : (t : Subscribers) (h : List Entry) (sub place : ℕ) (count : SubscriptionCount) → AreSubscribers t h → sub ≡ place + 1 → slice_get t.begun.items place ≡ Some count → (count.name ≡ name_of sub h) × (sub ≤ subscriptions_begun h) × (0 < sub)
named_at t h sub place count so next is =
    let found = count_found h 1 (flat_map subscribed_in h) place count so.numbers (ap (λ (l : List SubscriptionCount). slice_get l place) (sym so.begun) ∙ is) in
    let same : 1 + place ≡ sub = omega (arith, next) in
    (ap (λ (k : SubscriptionCount). k.name) (found.0 ∙ ap (count_in h) same), omega (arith, next, found.1), omega (arith, next))

pub none_at : (t : Subscribers) (h : List Entry) (sub : ℕ) → AreSubscribers t h → ((place : ℕ) → sub ≡ place + 1 → slice_get t.begun.items place ≡ None) → NeverBegan h sub
none_at t h zero so none = so.unbegun zero (inl refl)
none_at t h (suc place) so none =
    let far = none_found t.begun.items place (none place (omega arith)) in
    so.unbegun (suc place) (inr (omega (arith, far, ap (λ (l : List SubscriptionCount). length l) so.begun, length-map (flat_map subscribed_in h) (count_in h))))

pub if_none : {A P : Type 0} (o : Option A) → P → IfNone o P
if_none None p = p
if_none (Some x) p = tt

-- ---- before any entry a name is taken exactly where a live subscription has it

pub taken_by : (t : Subscribers) (h : List Entry) (name : List ℕ) → AreSubscribers t h → is_some (live_number t name) ≡ true → ((sub : ℕ) → is_live sub h ≡ true → name_of sub h ≢ name) → ⊥
taken_by t h name so is free = by (live_number t name) refl is where
  by : (o : Option ℕ) → live_number t name ≡ o → is_some o ≡ true → ⊥
  by None at none = absurd cc
  by (Some sub) at some = let found = so.named name sub at in free sub found.0 found.1

pub free_where : (t : Subscribers) (h : List Entry) (name : List ℕ) → AreSubscribers t h → is_some (live_number t name) ≡ false → (sub : ℕ) → is_live sub h ≡ true → name_of sub h ≢ name
free_where t h name so none sub on same =
    let at : live_number t name ≡ Some sub = ap (live_number t) (sym same) ∙ so.live sub on in
    let some : is_some (live_number t name) ≡ true = rw at refl in
    absurd cc
