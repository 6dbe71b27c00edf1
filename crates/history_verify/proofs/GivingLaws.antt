-- What shares give to subscriptions, counted share by share.
use Rattle.std.proofs.Common.{◌≡◌, ℕ, zero, suc, ◌+◌, ◌<◌, ◌≤◌, ◌^◌, Bool, true, false, cond, List, [], ◌∷◌, ◌++◌, length, map, take, drop, get_or, Option, Some, None, refl, sym, ap, ◌∙◌, subst, arith, length-append, append_assoc, append-nil}
use Rattle.std.specs.Prelude.{◌≢◌, ◌⊎◌, ◌==◌, filter, slice_get, slice_set, IfSome}
use Rattle.std.specs.Option.{option_map_or}
use Rattle.std.specs.List.{AllByRecursion, flat_map}
use Rattle.std.specs.Ordering.{nat_cmp}
use Rattle.std.specs.BTreeMap.{get_by_text}
use Rattle.std.specs.BTreeSet.{contains}
use Rattle.std.proofs.lemmas.Bool.{eqb-true, eq-eqb, ne_eqb}
use Rattle.std.proofs.lemmas.Grind.{flat_map-append}
use Rattle.std.proofs.lemmas.List.{map-append, take_more, take-append-drop, length_push}
use Rattle.std.proofs.lemmas.List.Concat.{flat_map-cons}
use Rattle.std.proofs.lemmas.List.Elements.{filter-append}
use Rattle.ipfix_template.specs.DataRecord.{DataRecord}
use Rattle.flow_aggregate.specs.Closing.{closed_by}
use Rattle.event_journal.specs.declared.limits.TheConstants.{MOST_ENTRIES}
use Rattle.event_journal.specs.declared.entry.Entry.{Entry}
use Rattle.event_journal.specs.declared.entry.Entry.TheVariants.{Message, Advance}
use Rattle.mediator_history.specs.Subscriptions.{named, name_of, begins, is_live, switched, is_served, subscribed_in, served}
use Rattle.mediator_history.specs.Disclosed.{given_at, disclosed}
use Rattle.mediator_history.proofs.HistoryLaws.{disclosed-push}
use Rattle.mediator_history.proofs.EntryLaws.{served_same, given_same}
use Rattle.mediator_history.proofs.CountingLaws.{counted_same, counted_unserved, running_unserved}
use Rattle.mediator_tables.specs.SubscriptionTable.{given_to, shown}
use Rattle.mediator_tables.specs.declared.share.Share.{Share}
use Rattle.history_verify.specs.declared.count.SubscriptionCount.{SubscriptionCount}
use Rattle.history_verify.specs.declared.subscribers.Subscribers.{Subscribers}
use Rattle.history_verify.specs.Counts.{count_in}
use Rattle.history_verify.specs.Parts.{AreNumbersFrom, live_number, AreSubscribers, with_more, more_at, with_given, served_shares, MayCount, HasCounted}
use Rattle.history_verify.specs.Sharing.{GiveAll}
use Rattle.history_verify.specs.Standing.{IsCountable}
use Rattle.history_verify.proofs.Stays.{last_stays, list_stays, count_stays}
use Rattle.history_verify.proofs.KeyLaws.{numbers_above}
use Rattle.history_verify.proofs.SubscriberLaws.{is_among}

-- ---- shares one after another

given_length : (sub : ℕ) (xs ys : List (ℕ × List DataRecord)) → length (given_to sub (xs ++ ys)) ≡ length (given_to sub xs) + length (given_to sub ys)
given_length sub xs ys =
    ap (λ (l : List DataRecord). length l) (flat_map-append (λ (s : ℕ × List DataRecord). cond (s.0 == sub) s.1 []) xs ys)
    ∙ length-append (given_to sub xs) (given_to sub ys)

more_same : (n m : ℕ) (c : SubscriptionCount) → n ≡ m → with_more n c ≡ with_more m c
more_same n m c same = ap (λ (k : ℕ). with_more k c) same

more_none : (c : SubscriptionCount) → with_more 0 c ≡ c
more_none c = ap (λ (k : ℕ). record { sub = c.sub; name = c.name; disclosed = k }) (omega arith)

more_twice : (n m k : ℕ) (c : SubscriptionCount) → n + m ≡ k → with_more m (with_more n c) ≡ with_more k c
more_twice n m k c sum = ap (λ (d : ℕ). record { sub = c.sub; name = c.name; disclosed = d }) (omega (arith, sum))

nothing_given : (cs : List SubscriptionCount) → map (with_given []) cs ≡ cs
nothing_given [] = refl
nothing_given (c ∷ cs) = ap (λ (d : SubscriptionCount). d ∷ map (with_given []) cs) (more_none c) ∙ ap (λ (t : List SubscriptionCount). c ∷ t) (nothing_given cs)

given_twice : (xs ys : List (ℕ × List DataRecord)) (cs : List SubscriptionCount) → map (with_given ys) (map (with_given xs) cs) ≡ map (with_given (xs ++ ys)) cs
given_twice xs ys [] = refl
given_twice xs ys (c ∷ cs) =
    ap (λ (d : SubscriptionCount). d ∷ map (with_given ys) (map (with_given xs) cs)) (more_twice (length (given_to c.sub xs)) (length (given_to c.sub ys)) (length (given_to c.sub (xs ++ ys))) c (sym (given_length c.sub xs ys)))
    ∙ ap (λ (t : List SubscriptionCount). with_given (xs ++ ys) c ∷ t) (given_twice xs ys cs)

pub counted_none : (t : Subscribers) → HasCounted [] t t
counted_none t = record { begun = sym (nothing_given t.begun.items); live = refl; served_are = refl }

counted_more : (t u v : Subscribers) (xs ys : List (ℕ × List DataRecord)) → HasCounted xs t u → HasCounted ys u v → HasCounted (xs ++ ys) t v
counted_more t u v xs ys first next = record {
  begun = next.begun ∙ ap (map (with_given ys)) first.begun ∙ given_twice xs ys t.begun.items;
  live = next.live ∙ first.live;
  served_are = next.served_are ∙ first.served_are;
}

numbers_same : (xs : List (ℕ × List DataRecord)) (cs : List SubscriptionCount) → map (λ (c : SubscriptionCount). c.sub) (map (with_given xs) cs) ≡ map (λ (c : SubscriptionCount). c.sub) cs
numbers_same xs [] = refl
numbers_same xs (c ∷ cs) = ap (λ (t : List ℕ). c.sub ∷ t) (numbers_same xs cs)

room_left : (xs ys zs : List (ℕ × List DataRecord)) (cs : List SubscriptionCount) → AllByRecursion (λ (c : SubscriptionCount). c.disclosed + length (given_to c.sub (xs ++ (ys ++ zs))) < 2 ^ 64) cs
    → AllByRecursion (λ (c : SubscriptionCount). c.disclosed + length (given_to c.sub ys) < 2 ^ 64) (map (with_given xs) cs)
room_left xs ys zs [] room = tt
room_left xs ys zs (c ∷ cs) room = (omega (arith, room.0, given_length c.sub xs (ys ++ zs), given_length c.sub ys zs), room_left xs ys zs cs room.1)

-- where the first shares are counted, the next ones may be
may_count_next : (t u : Subscribers) (xs ys zs : List (ℕ × List DataRecord)) → MayCount t (xs ++ (ys ++ zs)) → HasCounted xs t u → MayCount u ys
may_count_next t u xs ys zs may first = record {
  numbers = subst (λ (cs : List SubscriptionCount). AreNumbersFrom 1 (map (λ (c : SubscriptionCount). c.sub) cs)) (sym first.begun) (subst (AreNumbersFrom 1) (sym (numbers_same xs t.begun.items)) may.numbers);
  room = subst (AllByRecursion (λ (c : SubscriptionCount). c.disclosed + length (given_to c.sub ys) < 2 ^ 64)) (sym first.begun) (room_left xs ys zs t.begun.items may.room);
}

-- ---- one share

given_one : (q : ℕ) (s : ℕ × List DataRecord) → given_to q (s ∷ []) ≡ cond (s.0 == q) s.1 []
given_one q s = flat_map-cons (λ (o : ℕ × List DataRecord). cond (o.0 == q) o.1 []) s [] ∙ append-nil (cond (s.0 == q) s.1 [])

given_own : (q : ℕ) (s : ℕ × List DataRecord) → q ≡ s.0 → length (given_to q (s ∷ [])) ≡ length s.1
given_own q s same = ap (λ (l : List DataRecord). length l) (given_one q s ∙ ap (λ (b : Bool). cond b s.1 []) (eq-eqb s.0 q (sym same)))

given_other : (q : ℕ) (s : ℕ × List DataRecord) → q ≢ s.0 → length (given_to q (s ∷ [])) ≡ 0
given_other q s apart = ap (λ (l : List DataRecord). length l) (given_one q s ∙ ap (λ (b : Bool). cond b s.1 []) (ne_eqb s.0 q (λ same. apart (sym same))))

own_more : (s : ℕ × List DataRecord) (c : SubscriptionCount) → c.sub ≡ s.0 → with_given (s ∷ []) c ≡ with_more (length s.1) c
own_more s c same = more_same (length (given_to c.sub (s ∷ []))) (length s.1) c (given_own c.sub s same)

other_same : (s : ℕ × List DataRecord) (c : SubscriptionCount) → c.sub ≢ s.0 → with_given (s ∷ []) c ≡ c
other_same s c apart = more_same (length (given_to c.sub (s ∷ []))) 0 c (given_other c.sub s apart) ∙ more_none c

others_same : (s : ℕ × List DataRecord) (cs : List SubscriptionCount) → AllByRecursion (λ (q : ℕ). q ≢ s.0) (map (λ (c : SubscriptionCount). c.sub) cs) → map (with_given (s ∷ [])) cs ≡ cs
others_same s [] apart = refl
others_same s (c ∷ cs) apart =
    ap (λ (d : SubscriptionCount). d ∷ map (with_given (s ∷ [])) cs) (other_same s c apart.0) ∙ ap (λ (t : List SubscriptionCount). c ∷ t) (others_same s cs apart.1)

more_later : (c : SubscriptionCount) (cs : List SubscriptionCount) (k m : ℕ) → more_at (suc k) m (c ∷ cs) ≡ c ∷ more_at k m cs
more_later c cs k m = by (slice_get cs k) where
  by : (o : Option SubscriptionCount) → option_map_or (λ (x : SubscriptionCount). slice_set (c ∷ cs) (suc k) (with_more m x)) o (c ∷ cs) ≡ c ∷ option_map_or (λ (x : SubscriptionCount). slice_set cs k (with_more m x)) o cs
  by None = refl
  by (Some x) = refl

one_more : (s : ℕ × List DataRecord) (n : ℕ) (cs : List SubscriptionCount) (k : ℕ) → AreNumbersFrom n (map (λ (c : SubscriptionCount). c.sub) cs) → s.0 ≡ n + k → more_at k (length s.1) cs ≡ map (with_given (s ∷ [])) cs
one_more s n [] zero numbers at = refl
one_more s n [] (suc k) numbers at = refl
one_more s n (c ∷ cs) zero numbers at =
    ap (λ (d : SubscriptionCount). d ∷ cs) (sym (own_more s c (omega (arith, numbers.0, at))))
    ∙ ap (λ (t : List SubscriptionCount). with_given (s ∷ []) c ∷ t) (sym (others_same s cs (numbers_above s.0 (n + 1) (map (λ (d : SubscriptionCount). d.sub) cs) (omega (arith, at)) numbers.1)))
one_more s n (c ∷ cs) (suc k) numbers at =
    more_later c cs k (length s.1)
    ∙ ap (λ (t : List SubscriptionCount). c ∷ t) (one_more s (n + 1) cs k numbers.1 (omega (arith, at)))
    ∙ ap (λ (d : SubscriptionCount). d ∷ map (with_given (s ∷ [])) cs) (sym (other_same s c (λ same. absurd (omega (arith, numbers.0, at, same)))))

-- the count at the share's place, and no other, has more
pub counted_one : (t u : Subscribers) (share : Share) (place : ℕ) → MayCount t (shown share ∷ []) → share.sub ≡ place + 1 → u.begun.items ≡ more_at place (length share.given) t.begun.items
    → u.live ≡ t.live → u.served ≡ t.served → HasCounted (shown share ∷ []) t u
counted_one t u share place may next begun live served = record {
  begun = begun ∙ one_more (shown share) 1 t.begun.items place may.numbers (omega (arith, next));
  live = live;
  served_are = served;
}

pub no_less : (n : ℕ) → (1 ≤ n → ⊥) → n ≡ 0
no_less zero none = refl
no_less (suc n) none = absurd (none (omega arith))

-- no subscription has the number 0
pub counted_nobody : (t u : Subscribers) (share : Share) → MayCount t (shown share ∷ []) → share.sub ≡ 0 → u ≡ t → HasCounted (shown share ∷ []) t u
counted_nobody t u share may none same = record {
  begun = ap (λ (s : Subscribers). s.begun.items) same ∙ sym (others_same (shown share) t.begun.items (numbers_above share.sub 1 (map (λ (c : SubscriptionCount). c.sub) t.begun.items) (omega (arith, none)) may.numbers));
  live = ap (λ (s : Subscribers). s.live) same;
  served_are = ap (λ (s : Subscribers). s.served) same;
}

room_from : (s : ℕ × List DataRecord) (n : ℕ) (cs : List SubscriptionCount) (k : ℕ) → AreNumbersFrom n (map (λ (c : SubscriptionCount). c.sub) cs) → AllByRecursion (λ (c : SubscriptionCount). c.disclosed + length (given_to c.sub (s ∷ [])) < 2 ^ 64) cs
    → s.0 ≡ n + k → IfSome (slice_get cs k) (λ (c : SubscriptionCount). c.disclosed + length s.1 < 2 ^ 64)
room_from s n [] zero numbers room at = tt
room_from s n [] (suc k) numbers room at = tt
room_from s n (c ∷ cs) zero numbers room at = omega (arith, room.0, given_own c.sub s (omega (arith, numbers.0, at)))
room_from s n (c ∷ cs) (suc k) numbers room at = room_from s (n + 1) cs k numbers.1 room.1 (omega (arith, at))

pub room_at : (t : Subscribers) (share : Share) (place : ℕ) → MayCount t (shown share ∷ []) → share.sub ≡ place + 1 → IfSome (slice_get t.begun.items place) (λ (c : SubscriptionCount). c.disclosed + length share.given < 2 ^ 64)
room_at t share place may next = room_from (shown share) 1 t.begun.items place may.numbers may.room (omega (arith, next))

-- ---- a loop over shares

-- one share more of those in a list
shown_next : (shares : List Share) (place : ℕ) (share other : Share) → place < length shares → share ≡ get_or shares place other → map shown (take (place + 1) shares) ≡ map shown (take place shares) ++ shown share ∷ []
shown_next shares place share other within is =
    ap (map shown) (take_more shares place other within) ∙ map-append shown (take place shares) (get_or shares place other ∷ []) ∙ ap (λ (s : Share). map shown (take place shares) ++ shown s ∷ []) (sym is)

shown_whole : (shares : List Share) (place : ℕ) (share other : Share) → place < length shares → share ≡ get_or shares place other
    → map shown shares ≡ map shown (take place shares) ++ (shown share ∷ [] ++ map shown (drop (place + 1) shares))
shown_whole shares place share other within is =
    sym (ap (map shown) (take-append-drop (place + 1) shares))
    ∙ map-append shown (take (place + 1) shares) (drop (place + 1) shares)
    ∙ ap (λ (t : List (ℕ × List DataRecord)). t ++ map shown (drop (place + 1) shares)) (shown_next shares place share other within is)
    ∙ append_assoc (map shown (take place shares)) (shown share ∷ []) (map shown (drop (place + 1) shares))

pub counting_step : (t u v : Subscribers) (shares : List Share) (place : ℕ) (share other : Share) → place < length shares → share ≡ get_or shares place other
    → HasCounted (map shown (take place shares)) t u → HasCounted (shown share ∷ []) u v → HasCounted (map shown (take (place + 1) shares)) t v
counting_step t u v shares place share other within is before this =
    subst (λ (xs : List (ℕ × List DataRecord)). HasCounted xs t v) (sym (shown_next shares place share other within is)) (counted_more t u v (map shown (take place shares)) (shown share ∷ []) before this)

pub may_count_at : (t u : Subscribers) (shares : List Share) (place : ℕ) (share other : Share) → place < length shares → share ≡ get_or shares place other
    → MayCount t (map shown shares) → HasCounted (map shown (take place shares)) t u → MayCount u (shown share ∷ [])
may_count_at t u shares place share other within is may before =
    may_count_next t u (map shown (take place shares)) (shown share ∷ []) (map shown (drop (place + 1) shares))
    (subst (MayCount t) (shown_whole shares place share other within is) may) before

-- the same over those of served subscriptions alone
one_kept : {A : Type 0} (p : A → Bool) (x : A) → p x ≡ true → filter p (x ∷ []) ≡ x ∷ []
one_kept p x is = rw is refl

one_dropped : {A : Type 0} (p : A → Bool) (x : A) → p x ≡ false → filter p (x ∷ []) ≡ []
one_dropped p x is = rw is refl

served_next : (w : Subscribers) (shares : List Share) (place : ℕ) (share other : Share) → place < length shares → share ≡ get_or shares place other
    → served_shares w (map shown (take (place + 1) shares)) ≡ served_shares w (map shown (take place shares)) ++ served_shares w (shown share ∷ [])
served_next w shares place share other within is =
    ap (served_shares w) (shown_next shares place share other within is)
    ∙ filter-append (λ (s : ℕ × List DataRecord). contains nat_cmp w.served s.0) (map shown (take place shares)) (shown share ∷ [])

pub served_step : (t u v : Subscribers) (shares : List Share) (place : ℕ) (share other : Share) → place < length shares → share ≡ get_or shares place other → contains nat_cmp u.served share.sub ≡ true
    → HasCounted (served_shares t (map shown (take place shares))) t u → HasCounted (shown share ∷ []) u v → HasCounted (served_shares t (map shown (take (place + 1) shares))) t v
served_step t u v shares place share other within is on before this =
    let here : contains nat_cmp t.served share.sub ≡ true = ap (λ s. contains nat_cmp s share.sub) (sym before.served_are) ∙ on in
    let one : served_shares t (shown share ∷ []) ≡ shown share ∷ [] = one_kept (λ (s : ℕ × List DataRecord). contains nat_cmp t.served s.0) (shown share) here in
    subst (λ (xs : List (ℕ × List DataRecord)). HasCounted xs t v)
    (sym (served_next t shares place share other within is ∙ ap (λ (xs : List (ℕ × List DataRecord)). served_shares t (map shown (take place shares)) ++ xs) one))
    (counted_more t u v (served_shares t (map shown (take place shares))) (shown share ∷ []) before this)

pub served_skip : (t u : Subscribers) (shares : List Share) (place : ℕ) (share other : Share) → place < length shares → share ≡ get_or shares place other → contains nat_cmp u.served share.sub ≡ false
    → HasCounted (served_shares t (map shown (take place shares))) t u → HasCounted (served_shares t (map shown (take (place + 1) shares))) t u
served_skip t u shares place share other within is off before =
    let here : contains nat_cmp t.served share.sub ≡ false = ap (λ s. contains nat_cmp s share.sub) (sym before.served_are) ∙ off in
    let one : served_shares t (shown share ∷ []) ≡ [] = one_dropped (λ (s : ℕ × List DataRecord). contains nat_cmp t.served s.0) (shown share) here in
    subst (λ (xs : List (ℕ × List DataRecord)). HasCounted xs t u)
    (sym (served_next t shares place share other within is ∙ ap (λ (xs : List (ℕ × List DataRecord)). served_shares t (map shown (take place shares)) ++ xs) one))
    (counted_more t u u (served_shares t (map shown (take place shares))) [] before (counted_none u))

pub may_count_served : (t u : Subscribers) (shares : List Share) (place : ℕ) (share other : Share) → place < length shares → share ≡ get_or shares place other → contains nat_cmp u.served share.sub ≡ true
    → MayCount t (served_shares t (map shown shares)) → HasCounted (served_shares t (map shown (take place shares))) t u → MayCount u (shown share ∷ [])
may_count_served t u shares place share other within is on may before =
    may_count_next t u (served_shares t (map shown (take place shares))) (shown share ∷ []) (served_shares t (map shown (drop (place + 1) shares)))
    (subst (MayCount t) parts may) before
  where
    here : contains nat_cmp t.served share.sub ≡ true
    here = ap (λ s. contains nat_cmp s share.sub) (sym before.served_are) ∙ on

    p : ℕ × List DataRecord → Bool
    p s = contains nat_cmp t.served s.0

    rest : List (ℕ × List DataRecord)
    rest = map shown (drop (place + 1) shares)

    parts : served_shares t (map shown shares) ≡ served_shares t (map shown (take place shares)) ++ (shown share ∷ [] ++ served_shares t (map shown (drop (place + 1) shares)))
    parts =
        ap (filter p) (shown_whole shares place share other within is)
        ∙ filter-append p (map shown (take place shares)) (shown share ∷ [] ++ rest)
        ∙ ap (λ (xs : List (ℕ × List DataRecord)). filter p (map shown (take place shares)) ++ xs)
        (filter-append p (shown share ∷ []) rest ∙ ap (λ (xs : List (ℕ × List DataRecord)). xs ++ filter p rest) (one_kept p (shown share) here))

-- ---- shares that give what an entry gives

pub given_unserved : (sub : ℕ) (h : List Entry) (x : Entry) → is_served sub h ≡ false → given_at sub h x ≡ []
unfolding closed_by
given_unserved sub h (Message session number octets) off = rw off refl
given_unserved sub h (Advance t) off = ap (closed_by t) (running_unserved sub h off)
given_unserved sub h _ off = refl

-- what is left for a subscription of the shares that pass a test of their numbers
filtered : (p : ℕ → Bool) (sub : ℕ) (shares : List (ℕ × List DataRecord)) → given_to sub (filter (λ (s : ℕ × List DataRecord). p s.0) shares) ≡ cond (p sub) (given_to sub shares) []
filtered p sub [] = by (p sub) where
  by : (on : Bool) → [] ≡ cond on (given_to sub []) []
  by true = refl
  by false = refl
filtered p sub (s ∷ shares) = by (p s.0) (s.0 == sub) (p sub) refl refl refl (filtered p sub shares) where
  rest : List (ℕ × List DataRecord)
  rest = filter (λ (o : ℕ × List DataRecord). p o.0) shares

  front : (xs : List (ℕ × List DataRecord)) → given_to sub (s ∷ xs) ≡ cond (s.0 == sub) s.1 [] ++ given_to sub xs
  front xs = flat_map-cons (λ (o : ℕ × List DataRecord). cond (o.0 == sub) o.1 []) s xs

  by : (kept same on : Bool) → p s.0 ≡ kept → (s.0 == sub) ≡ same → p sub ≡ on → given_to sub rest ≡ cond (p sub) (given_to sub shares) [] → given_to sub (cond kept (s ∷ rest) rest) ≡ cond on (given_to sub (s ∷ shares)) []
  by true same true k e o others =
      front rest ∙ ap (λ (l : List DataRecord). cond (s.0 == sub) s.1 [] ++ l) (others ∙ ap (λ (b : Bool). cond b (given_to sub shares) []) o) ∙ sym (front shares)
  by true false false k e o others =
      front rest ∙ ap (λ (b : Bool). cond b s.1 [] ++ given_to sub rest) e ∙ others ∙ ap (λ (b : Bool). cond b (given_to sub shares) []) o
  by true true false k e o others = absurd (differ (eqb-true s.0 sub e)) where
    differ : s.0 ≡ sub → ⊥
    differ alike = let on : p sub ≡ true = ap p (sym alike) ∙ k in absurd cc
  by false true true k e o others = absurd (differ (eqb-true s.0 sub e)) where
    differ : s.0 ≡ sub → ⊥
    differ alike = let off : p sub ≡ false = ap p (sym alike) ∙ k in absurd cc
  by false false true k e o others =
      others ∙ ap (λ (b : Bool). cond b (given_to sub shares) []) o ∙ sym (front shares ∙ ap (λ (b : Bool). cond b s.1 [] ++ given_to sub shares) e)
  by false same false k e o others = others ∙ ap (λ (b : Bool). cond b (given_to sub shares) []) o

-- where shares give those that are served what the entry gives them, the shares of these alone give each subscription that
pub served_give : (t : Subscribers) (h : List Entry) (x : Entry) (shares : List (ℕ × List DataRecord)) → AreSubscribers t h → ((sub : ℕ) → is_served sub h ≡ true → given_to sub shares ≡ given_at sub h x)
    → GiveAll h x (served_shares t shares)
served_give t h x shares so given = λ sub. by sub (is_served sub h) refl where
  by : (sub : ℕ) (on : Bool) → is_served sub h ≡ on → given_to sub (served_shares t shares) ≡ given_at sub h x
  by sub true is = filtered (contains nat_cmp t.served) sub shares ∙ ap (λ (b : Bool). cond b (given_to sub shares) []) (is_among t h sub so ∙ is) ∙ given sub is
  by sub false is = filtered (contains nat_cmp t.served) sub shares ∙ ap (λ (b : Bool). cond b (given_to sub shares) []) (is_among t h sub so ∙ is) ∙ sym (given_unserved sub h x is)

-- ---- an entry that neither begins nor ends a subscription, and is no cut

counts_given : (h : List Entry) (x : Entry) (shares : List (ℕ × List DataRecord)) → ((sub : ℕ) → named sub x ≡ None) → GiveAll h x shares → (subs : List ℕ)
    → map (with_given shares) (map (count_in h) subs) ≡ map (count_in (h ++ x ∷ [])) subs
counts_given h x shares name gives [] = refl
counts_given h x shares name gives (sub ∷ subs) =
    ap (λ (c : SubscriptionCount). c ∷ map (with_given shares) (map (count_in h) subs)) one
    ∙ ap (λ (t : List SubscriptionCount). count_in (h ++ x ∷ []) sub ∷ t) (counts_given h x shares name gives subs) where
      size : length (disclosed sub h) + length (given_to sub shares) ≡ length (disclosed sub (h ++ x ∷ []))
      size =
          omega (
            arith,
            ap (λ (l : List DataRecord). length l) (gives sub),
            ap (λ (l : List DataRecord). length l) (disclosed-push sub h x),
            length-append (disclosed sub h) (given_at sub h x),
          )

      one : with_given shares (count_in h sub) ≡ count_in (h ++ x ∷ []) sub
      one =
          ap (λ (n : List ℕ). record { sub = sub; name = n; disclosed = length (disclosed sub h) + length (given_to sub shares) }) (sym (last_stays (named sub) [] h x (name sub)))
          ∙ ap (λ (n : ℕ). record { sub = sub; name = name_of sub (h ++ x ∷ []); disclosed = n }) size

pub subscribers_given : (t u : Subscribers) (h : List Entry) (x : Entry) (shares : List (ℕ × List DataRecord)) → ((sub : ℕ) → begins sub x ≡ None) → ((sub : ℕ) → switched sub x ≡ None)
    → ((sub : ℕ) → named sub x ≡ None) → subscribed_in x ≡ [] → GiveAll h x shares → HasCounted shares t u → AreSubscribers t h → AreSubscribers u (h ++ x ∷ [])
subscribers_given t u h x shares begin switch name none gives has so = record {
  begun = has.begun ∙ ap (map (with_given shares)) so.begun ∙ counts_given h x shares name gives (flat_map subscribed_in h) ∙ ap (map (count_in new)) (sym same);
  numbers = subst (AreNumbersFrom 1) (sym same) so.numbers;
  named = λ n sub is. let old = so.named n sub (sym (number n) ∙ is) in (live sub ∙ old.0, names sub ∙ old.1);
  live = λ sub is. number (name_of sub new) ∙ subst (λ (n : List ℕ). live_number t n ≡ Some sub) (sym (names sub)) (so.live sub (sym (live sub) ∙ is));
  served_are = ap (λ s. s.keys) has.served_are ∙ so.served_are ∙ sym (served_same h x switch none);
  unbegun = λ sub above.
      let un = so.unbegun sub (subst (λ (n : ℕ). (sub ≡ 0) ⊎ (n < sub)) (count_stays subscribed_in h x none) above) in
      record {
        gone = live sub ∙ un.gone;
        nameless = names sub ∙ un.nameless;
        unserved = last_stays (switched sub) false h x (switch sub) ∙ un.unserved;
        nothing = given_same sub h x (given_unserved sub h x un.unserved) ∙ un.nothing;
        uncounted = counted_same sub h x (counted_unserved sub h x un.unserved) ∙ un.uncounted;
      };
} where
  new : List Entry
  new = h ++ x ∷ []

  same : flat_map subscribed_in (h ++ x ∷ []) ≡ flat_map subscribed_in h
  same = list_stays subscribed_in h x none

  names : (sub : ℕ) → name_of sub (h ++ x ∷ []) ≡ name_of sub h
  names sub = last_stays (named sub) [] h x (name sub)

  live : (sub : ℕ) → is_live sub (h ++ x ∷ []) ≡ is_live sub h
  live sub = last_stays (begins sub) false h x (begin sub)

  number : (n : List ℕ) → live_number u n ≡ live_number t n
  number n = ap (λ m. get_by_text m n) has.live

-- ---- no count comes to its end

own_numbers : (h : List Entry) (subs : List ℕ) → map (λ (c : SubscriptionCount). c.sub) (map (count_in h) subs) ≡ subs
own_numbers h [] = refl
own_numbers h (sub ∷ subs) = ap (λ (t : List ℕ). sub ∷ t) (own_numbers h subs)

small_counts : (h : List Entry) (x : Entry) (shares : List (ℕ × List DataRecord)) → GiveAll h x shares → IsCountable (h ++ x ∷ []) → length h ≤ MOST_ENTRIES → (subs : List ℕ)
    → AllByRecursion (λ (c : SubscriptionCount). c.disclosed + length (given_to c.sub shares) < 2 ^ 64) (map (count_in h) subs)
small_counts h x shares gives small short [] = tt
small_counts h x shares gives small short (sub ∷ subs) = (
  omega (
    arith,
    short,
    small.listed sub,
    length_push h x,
    ap (λ (l : List DataRecord). length l) (gives sub),
    ap (λ (l : List DataRecord). length l) (disclosed-push sub h x),
    length-append (disclosed sub h) (given_at sub h x),
  ),
  small_counts h x shares gives small short subs,
)

-- where the longer history is small, what the entry gives may be counted
pub may_count : (t : Subscribers) (h : List Entry) (x : Entry) (shares : List (ℕ × List DataRecord)) → AreSubscribers t h → GiveAll h x shares → IsCountable (h ++ x ∷ []) → length h ≤ MOST_ENTRIES → MayCount t shares
may_count t h x shares so gives small short = record {
  numbers = subst (λ (cs : List SubscriptionCount). AreNumbersFrom 1 (map (λ (c : SubscriptionCount). c.sub) cs)) (sym so.begun) (subst (AreNumbersFrom 1) (sym (own_numbers h (flat_map subscribed_in h))) so.numbers);
  room = subst (AllByRecursion (λ (c : SubscriptionCount). c.disclosed + length (given_to c.sub shares) < 2 ^ 64)) (sym so.begun) (small_counts h x shares gives small short (flat_map subscribed_in h));
}
