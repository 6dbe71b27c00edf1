-- Subscribers that stand for a history stand for one more in which a subscription begins or ends.
use Rattle.std.proofs.Common.{◌≡◌, ℕ, ◌+◌, ◌<◌, Bool, true, false, cond, List, [], ◌∷◌, ◌++◌, length, map, Option, Some, None, refl, sym, ap, ◌∙◌, subst, arith, inl, inr}
use Rattle.std.specs.Prelude.{◌≢◌, ◌⊎◌, ◌==◌, unwrap_or, nat_eq, Result, Ok, Err, is_err, OnOk, OnErr}
use Rattle.std.specs.Option.{option_eq}
use Rattle.std.specs.List.{flat_map, AllByRecursion}
use Rattle.std.specs.Map.{update}
use Rattle.std.specs.Str.{bytes_eq}
use Rattle.std.specs.Ordering.{nat_cmp}
use Rattle.std.specs.Set.{remove_key}
use Rattle.std.specs.BTreeSet.{insert_key}
use Rattle.std.specs.BTreeMap.{is_at}
use Rattle.std.proofs.lemmas.Bool.{eqb-true, eqb-false, eq-eqb, ne_eqb}
use Rattle.std.proofs.lemmas.List.{map-append, length-map}
use Rattle.std.proofs.lemmas.Slice.Eq.{bytes_eq-Decides}
use Rattle.std.proofs.lemmas.Option.{none-some, same_Some}
use Rattle.sequences.proofs.BeforeLaws.{last_of-push}
use Rattle.ipfix_template.specs.DataRecord.{DataRecord}
use Rattle.event_journal.specs.declared.entry.Entry.{Entry}
use Rattle.event_journal.specs.declared.entry.Entry.TheVariants.{Subscribe, Unsubscribe}
use Rattle.mediator_history.specs.Subscriptions.{named, name_of, begins, is_live, switched, is_served, subscribed_in, subscriptions_begun, served}
use Rattle.mediator_history.specs.Disclosed.{disclosed}
use Rattle.mediator_history.proofs.ListFilters.{distinct_filter, all_of_filter}
use Rattle.mediator_history.proofs.EntryLaws.{served-subscribe, served-unsubscribe, given_same}
use Rattle.mediator_history.proofs.CountingLaws.{counted_same}
use Rattle.history_verify.specs.declared.count.SubscriptionCount.{SubscriptionCount}
use Rattle.history_verify.specs.declared.subscribers.Subscribers.{Subscribers}
use Rattle.history_verify.specs.Counts.{count_in, counts_of}
use Rattle.history_verify.specs.Parts.{AreNumbersFrom, live_number, NeverBegan, AreSubscribers}
use Rattle.history_verify.proofs.Stays.{last_stays, list_stays, list_more, count_stays, count_more}
use Rattle.history_verify.proofs.KeyLaws.{removed_is, inserted_above, numbers_apart, numbers_below, numbers_push}
use Rattle.history_verify.proofs.SubscriberLaws.{map_alike, counted_alike}

-- the count of a subscription that begins
abbrev pub fresh : ℕ → List ℕ → SubscriptionCount
fresh sub name = record { sub = sub; name = name; disclosed = 0 }

other_name : (name n : List ℕ) → (name ≡ n → ⊥) → bytes_eq name n ≡ false
other_name name n apart = by (bytes_eq name n) refl
  where
    by : (b : Bool) → bytes_eq name n ≡ b → bytes_eq name n ≡ false
    by true is = absurd (apart ((bytes_eq-Decides name n).0 is))
    by false is = is

counted_all : (g h : List Entry) (subs : List ℕ) → AllByRecursion (λ q. name_of q g ≡ name_of q h) subs → ((q : ℕ) → disclosed q g ≡ disclosed q h) → map (count_in g) subs ≡ map (count_in h) subs
counted_all g h [] names given = refl
counted_all g h (q ∷ subs) names given =
    ap (λ (c : SubscriptionCount). c ∷ map (count_in g) subs) (counted_alike g h q names.0 (given q)) ∙ ap (λ (t : List SubscriptionCount). count_in h q ∷ t) (counted_all g h subs names.1 given)

all_apart : (n : ℕ) (xs : List ℕ) → AllByRecursion (λ x. x < n) xs → AllByRecursion (λ x. x ≢ n) xs
all_apart n [] low = tt
all_apart n (x ∷ xs) low = (λ same. absurd (omega (arith, low.0, same)), all_apart n xs low.1)

all_map : (P Q : ℕ → Type 0) → ((x : ℕ) → P x → Q x) → (xs : List ℕ) → AllByRecursion P xs → AllByRecursion Q xs
all_map P Q f [] all = tt
all_map P Q f (x ∷ xs) all = (f x all.0, all_map P Q f xs all.1)

-- ---- a subscription begins

pub subscribers_begin : (t u : Subscribers) (h : List Entry) (sub : ℕ) (name : List ℕ) → AreSubscribers t h → sub ≡ length t.begun.items + 1 → live_number t name ≡ None
    → u.begun.items ≡ t.begun.items ++ fresh sub name ∷ [] → ((n : List ℕ) → live_number u n ≡ update bytes_eq (live_number t) name (Some sub) n)
    → u.served.keys ≡ insert_key nat_cmp t.served.keys sub → AreSubscribers u (h ++ Subscribe sub name ∷ [])
subscribers_begin t u h sub name so next free begun numbers inserted = record {
  begun = begun ∙ ap (λ (cs : List SubscriptionCount). cs ++ fresh sub name ∷ []) so.begun ∙ sym (
      ap (map (count_in new)) more
      ∙ map-append (count_in new) subs (sub ∷ [])
      ∙ ap (λ (cs : List SubscriptionCount). cs ++ count_in new sub ∷ []) (counted_all new h subs (all_map (λ q. q ≢ sub) (λ q. name_of q new ≡ name_of q h) (λ q apart. other_name_of q apart) subs apart_all) same_given)
      ∙ ap (λ (c : SubscriptionCount). counts_of h ++ c ∷ []) own
      );
  numbers = subst (AreNumbersFrom 1) (sym more) (numbers_push 1 subs sub so.numbers (omega (arith, number)));
  named = λ n q is. taken n q (bytes_eq name n) refl is;
  live = λ q is. lives q (sub == q) refl is;
  served_are = inserted ∙ ap (λ (ks : List ℕ). insert_key nat_cmp ks sub) so.served_are
      ∙ inserted_above sub (served h) (all_of_filter (λ q. q < sub) (λ q. is_served q h) subs low_all)
      ∙ sym (served-subscribe h sub name apart_all);
  unbegun = λ q above. never q (higher q above);
} where
  new : List Entry
  new = h ++ Subscribe sub name ∷ []

  subs : List ℕ
  subs = flat_map subscribed_in h

  more : flat_map subscribed_in (h ++ Subscribe sub name ∷ []) ≡ flat_map subscribed_in h ++ sub ∷ []
  more = list_more subscribed_in h (Subscribe sub name) sub refl

  number : sub ≡ 1 + length (flat_map subscribed_in h)
  number = omega (arith, next, ap (λ (cs : List SubscriptionCount). length cs) so.begun, length-map (flat_map subscribed_in h) (count_in h))

  count : subscriptions_begun (h ++ Subscribe sub name ∷ []) ≡ subscriptions_begun h + 1
  count = count_more subscribed_in h (Subscribe sub name) sub refl

  low_all : AllByRecursion (λ q. q < sub) (flat_map subscribed_in h)
  low_all = subst (λ (n : ℕ). AllByRecursion (λ q. q < n) (flat_map subscribed_in h)) (sym number) (numbers_below 1 (flat_map subscribed_in h) so.numbers)

  apart_all : AllByRecursion (λ q. q ≢ sub) (flat_map subscribed_in h)
  apart_all = all_apart sub (flat_map subscribed_in h) low_all

  same_given : (q : ℕ) → disclosed q (h ++ Subscribe sub name ∷ []) ≡ disclosed q h
  same_given q = given_same q h (Subscribe sub name) refl

  before : NeverBegan h sub
  before = so.unbegun sub (inr (omega (arith, number)))

  other : (q : ℕ) → q ≢ sub → (sub == q) ≡ false
  other q apart = ne_eqb sub q (λ same. apart (sym same))

  other_name_of : (q : ℕ) → q ≢ sub → name_of q (h ++ Subscribe sub name ∷ []) ≡ name_of q h
  other_name_of q apart = last_stays (named q) [] h (Subscribe sub name) (rw (other q apart) refl)

  other_live : (q : ℕ) → q ≢ sub → is_live q (h ++ Subscribe sub name ∷ []) ≡ is_live q h
  other_live q apart = last_stays (begins q) false h (Subscribe sub name) (rw (other q apart) refl)

  other_served : (q : ℕ) → q ≢ sub → is_served q (h ++ Subscribe sub name ∷ []) ≡ is_served q h
  other_served q apart = last_stays (switched q) false h (Subscribe sub name) (rw (other q apart) refl)

  own_name : name_of sub (h ++ Subscribe sub name ∷ []) ≡ name
  own_name = last_of-push (named sub) [] h (Subscribe sub name) ∙ (rw (eq-eqb sub sub refl) refl)

  own_live : is_live sub (h ++ Subscribe sub name ∷ []) ≡ true
  own_live = last_of-push (begins sub) false h (Subscribe sub name) ∙ (rw (eq-eqb sub sub refl) refl)

  own : count_in (h ++ Subscribe sub name ∷ []) sub ≡ fresh sub name
  own =
      ap (λ (n : List ℕ). record { sub = sub; name = n; disclosed = length (disclosed sub (h ++ Subscribe sub name ∷ [])) }) own_name
      ∙ ap (λ (l : List DataRecord). record { sub = sub; name = name; disclosed = length l }) (same_given sub ∙ before.nothing)

  different : (q : ℕ) → is_live q h ≡ true → q ≢ sub
  different q on same = let off : is_live q h ≡ false = ap (λ (n : ℕ). is_live n h) same ∙ before.gone in absurd cc

  taken : (n : List ℕ) (q : ℕ) (here : Bool) → bytes_eq name n ≡ here → live_number u n ≡ Some q → (is_live q (h ++ Subscribe sub name ∷ []) ≡ true) × (name_of q (h ++ Subscribe sub name ∷ []) ≡ n)
  taken n q true is at =
      let same : sub ≡ q = same_Some sub q (sym (numbers n ∙ ap (λ (b : Bool). cond b (Some sub) (live_number t n)) is) ∙ at) in
      let name_is : name ≡ n = (bytes_eq-Decides name n).0 is in
      (ap (λ (k : ℕ). is_live k (h ++ Subscribe sub name ∷ [])) (sym same) ∙ own_live, ap (λ (k : ℕ). name_of k (h ++ Subscribe sub name ∷ [])) (sym same) ∙ own_name ∙ name_is)
  taken n q false is at =
      let old = so.named n q (sym (numbers n ∙ ap (λ (b : Bool). cond b (Some sub) (live_number t n)) is) ∙ at) in
      let apart : q ≢ sub = different q old.0 in
      (other_live q apart ∙ old.0, other_name_of q apart ∙ old.1)

  lives : (q : ℕ) (here : Bool) → (sub == q) ≡ here → is_live q (h ++ Subscribe sub name ∷ []) ≡ true → live_number u (name_of q (h ++ Subscribe sub name ∷ [])) ≡ Some q
  lives q true is on =
      let same : sub ≡ q = eqb-true sub q is in
      ap (live_number u) (ap (λ (k : ℕ). name_of k (h ++ Subscribe sub name ∷ [])) (sym same) ∙ own_name)
      ∙ numbers name ∙ ap (λ (b : Bool). cond b (Some sub) (live_number t name)) ((bytes_eq-Decides name name).1 refl) ∙ ap (λ (k : ℕ). Some k) same
  lives q false is on =
      let apart : q ≢ sub = λ same. eqb-false sub q is (sym same) in
      let was : live_number t (name_of q h) ≡ Some q = so.live q (sym (other_live q apart) ∙ on) in
      ap (live_number u) (other_name_of q apart) ∙ numbers (name_of q h)
      ∙ ap (λ (b : Bool). cond b (Some sub) (live_number t (name_of q h))) (other_name name (name_of q h) (λ same. none-some q (sym free ∙ ap (live_number t) same ∙ was))) ∙ was

  higher : (q : ℕ) → (q ≡ 0) ⊎ (subscriptions_begun (h ++ Subscribe sub name ∷ []) < q) → ((q ≡ 0) ⊎ (subscriptions_begun h < q)) × (q ≢ sub)
  higher q (inl none) = (inl none, λ same. absurd (omega (arith, none, same, number)))
  higher q (inr above) = (inr (omega (arith, above, count)), λ same. absurd (omega (arith, above, count, same, number)))

  never : (q : ℕ) → ((q ≡ 0) ⊎ (subscriptions_begun h < q)) × (q ≢ sub) → NeverBegan (h ++ Subscribe sub name ∷ []) q
  never q far =
      let un = so.unbegun q far.0 in
      record {
        gone = other_live q far.1 ∙ un.gone;
        nameless = other_name_of q far.1 ∙ un.nameless;
        unserved = other_served q far.1 ∙ un.unserved;
        nothing = same_given q ∙ un.nothing;
        uncounted = counted_same q h (Subscribe sub name) refl ∙ un.uncounted;
      }

-- ---- a subscription ends

pub subscribers_end : (t u : Subscribers) (h : List Entry) (sub : ℕ) → AreSubscribers t h → is_live sub h ≡ true → u.begun ≡ t.begun
    → ((n : List ℕ) → live_number u n ≡ update bytes_eq (live_number t) (name_of sub h) None n)
    → u.served.keys ≡ remove_key (is_at (nat_cmp sub)) t.served.keys → AreSubscribers u (h ++ Unsubscribe sub ∷ [])
subscribers_end t u h sub so on begun numbers fewer = record {
  begun = ap (λ v. v.items) begun ∙ so.begun ∙ sym (ap (map (count_in new)) same ∙ map_alike (count_in new) (count_in h) (λ q. counted_alike new h q (names q) (given_same q h (Unsubscribe sub) refl)) (flat_map subscribed_in h));
  numbers = subst (AreNumbersFrom 1) (sym same) so.numbers;
  named = λ n q is. taken n q (bytes_eq (name_of sub h) n) refl is;
  live = λ q is. lives q (sub == q) refl is;
  served_are = fewer ∙ ap (remove_key (is_at (nat_cmp sub))) so.served_are
      ∙ removed_is sub (served h) (distinct_filter (λ q. is_served q h) (flat_map subscribed_in h) (numbers_apart 1 (flat_map subscribed_in h) so.numbers)) ∙ sym (served-unsubscribe h sub);
  unbegun = λ q above.
      let un = so.unbegun q (subst (λ (n : ℕ). (q ≡ 0) ⊎ (n < q)) (count_stays subscribed_in h (Unsubscribe sub) refl) above) in
      record {
        gone = last_of-push (begins q) false h (Unsubscribe sub) ∙ ends (sub == q) (is_live q h) un.gone;
        nameless = names q ∙ un.nameless;
        unserved = last_of-push (switched q) false h (Unsubscribe sub) ∙ ends (sub == q) (is_served q h) un.unserved;
        nothing = given_same q h (Unsubscribe sub) refl ∙ un.nothing;
        uncounted = counted_same q h (Unsubscribe sub) refl ∙ un.uncounted;
      };
} where
  new : List Entry
  new = h ++ Unsubscribe sub ∷ []

  same : flat_map subscribed_in (h ++ Unsubscribe sub ∷ []) ≡ flat_map subscribed_in h
  same = list_stays subscribed_in h (Unsubscribe sub) refl

  names : (q : ℕ) → name_of q (h ++ Unsubscribe sub ∷ []) ≡ name_of q h
  names q = last_stays (named q) [] h (Unsubscribe sub) refl

  ends : (here was : Bool) → was ≡ false → (let at : Option Bool = cond here (Some false) None in unwrap_or at was ≡ false)
  ends true was is = refl
  ends false was is = is

  other_live : (q : ℕ) → (sub == q) ≡ false → is_live q (h ++ Unsubscribe sub ∷ []) ≡ is_live q h
  other_live q apart = last_stays (begins q) false h (Unsubscribe sub) (rw apart refl)

  own_live : is_live sub (h ++ Unsubscribe sub ∷ []) ≡ false
  own_live = last_of-push (begins sub) false h (Unsubscribe sub) ∙ (rw (eq-eqb sub sub refl) refl)

  taken : (n : List ℕ) (q : ℕ) (here : Bool) → bytes_eq (name_of sub h) n ≡ here → live_number u n ≡ Some q → (is_live q (h ++ Unsubscribe sub ∷ []) ≡ true) × (name_of q (h ++ Unsubscribe sub ∷ []) ≡ n)
  taken n q true is at = absurd (none-some q (sym (numbers n ∙ ap (λ (b : Bool). cond b None (live_number t n)) is) ∙ at))
  taken n q false is at =
      let old = so.named n q (sym (numbers n ∙ ap (λ (b : Bool). cond b None (live_number t n)) is) ∙ at) in
      let apart : (sub == q) ≡ false = ne_eqb sub q (λ equal. unlike is ((bytes_eq-Decides (name_of sub h) n).1 (ap (λ (k : ℕ). name_of k h) equal ∙ old.1))) in
      (other_live q apart ∙ old.0, names q ∙ old.1)
    where
      unlike : bytes_eq (name_of sub h) n ≡ false → bytes_eq (name_of sub h) n ≡ true → ⊥
      unlike off here = absurd cc

  lives : (q : ℕ) (here : Bool) → (sub == q) ≡ here → is_live q (h ++ Unsubscribe sub ∷ []) ≡ true → live_number u (name_of q (h ++ Unsubscribe sub ∷ [])) ≡ Some q
  lives q true is live =
      let off : is_live q (h ++ Unsubscribe sub ∷ []) ≡ false = ap (λ (k : ℕ). is_live k (h ++ Unsubscribe sub ∷ [])) (sym (eqb-true sub q is)) ∙ own_live in
      absurd cc
  lives q false is live =
      let was : live_number t (name_of q h) ≡ Some q = so.live q (sym (other_live q is) ∙ live) in
      ap (live_number u) (names q) ∙ numbers (name_of q h)
      ∙ ap (λ (b : Bool). cond b None (live_number t (name_of q h)))
      (other_name (name_of sub h) (name_of q h) (λ equal. eqb-false sub q is (same_Some sub q (sym (so.live sub on) ∙ ap (live_number t) equal ∙ was)))) ∙ was

-- ---- who is live

-- a subscription is live exactly where its name leads to it
live_where : (t : Subscribers) (h : List Entry) (sub : ℕ) (name : List ℕ) (o : Option ℕ) (here : Bool) → AreSubscribers t h → name ≡ name_of sub h → o ≡ live_number t name
    → (here ≡ true → o ≡ Some sub) → (o ≡ Some sub → here ≡ true) → here ≡ is_live sub h
live_where t h sub name o true so is found there back = sym (so.named name sub (sym found ∙ there refl)).0
live_where t h sub name o false so is found there back = by (is_live sub h) refl where
  by : (on : Bool) → is_live sub h ≡ on → false ≡ on
  by true on = back (found ∙ ap (live_number t) is ∙ so.live sub on)
  by false on = refl

-- a subscription that began has a count
pub live_begun : (h : List Entry) (sub : ℕ) → is_live sub h ≡ true → NeverBegan h sub → ⊥
live_begun h sub on un = let off : is_live sub h ≡ false = un.gone in absurd cc

same_option : (o : Option ℕ) (n : ℕ) → option_eq nat_eq o (Some n) ≡ true → o ≡ Some n
same_option None n is = absurd cc
same_option (Some m) n is = ap (λ (k : ℕ). Some k) (eqb-true m n is)

pub live_by_name : (t : Subscribers) (h : List Entry) (sub : ℕ) (name : List ℕ) (o : Option ℕ) (here : Bool) → AreSubscribers t h → name ≡ name_of sub h → o ≡ live_number t name
    → here ≡ option_eq nat_eq o (Some sub) → here ≡ is_live sub h
live_by_name t h sub name o here so is found test =
    live_where t h sub name o here so is found (λ on. same_option o sub (sym test ∙ on)) (λ same. test ∙ ap (λ (x : Option ℕ). option_eq nat_eq x (Some sub)) same ∙ eq-eqb sub sub refl)

-- ---- a name that is put in and taken out again

pub names_back : (f g k : List ℕ → Option ℕ) (sub : ℕ) (name : List ℕ) → f name ≡ None → ((n : List ℕ) → g n ≡ update bytes_eq f name (Some sub) n) → ((n : List ℕ) → k n ≡ update bytes_eq g name None n)
    → (n : List ℕ) → k n ≡ f n
names_back f g k sub name free more less n = by (bytes_eq name n) refl where
  by : (here : Bool) → bytes_eq name n ≡ here → k n ≡ f n
  by true is = less n ∙ ap (λ (b : Bool). cond b None (g n)) is ∙ sym (ap f (sym ((bytes_eq-Decides name n).0 is)) ∙ free)
  by false is = less n ∙ ap (λ (b : Bool). cond b None (g n)) is ∙ more n ∙ ap (λ (b : Bool). cond b (Some sub) (f n)) is

pub err_holds : {A E P : Type 0} (r : Result A E) → is_err r ≡ true → OnErr r P → P
err_holds (Ok x) is on = absurd cc
err_holds (Err e) is on = on

pub ok_holds : {A E P : Type 0} (r : Result A E) → is_err r ≡ false → OnOk r P → P
ok_holds (Ok x) is on = on
ok_holds (Err e) is on = absurd cc
