-- Running groups that stand for a history stand for one entry more.
use Rattle.std.proofs.Common.{◌≡◌, ◌≢◌, ℕ, ◌+◌, ◌<◌, Bool, true, false, cond, eqb, List, [], ◌∷◌, ◌++◌, length, map, take, slice_get, refl, sym, ap, ◌∙◌, subst, true≢false}
use Rattle.std.specs.Prelude.{◌==◌, get_or}
use Rattle.std.specs.List.{AllByRecursion, IsDistinct}
use Rattle.std.specs.Map.{keys_of}
use Rattle.std.proofs.lemmas.Bool.{eqb-true, eqb-false, eq-eqb, ne_eqb}
use Rattle.std.proofs.lemmas.List.{take_more, map-append}
use Rattle.ipfix_template.specs.DataRecord.{DataRecord}
use Rattle.event_journal.specs.declared.entry.Entry.{Entry}
use Rattle.mediator_history.specs.Counting.{running}
use Rattle.mediator_history.specs.Numbers.{is_in}
use Rattle.flow_aggregate.specs.declared.addition.Addition.{Addition}
use Rattle.flow_aggregate.specs.Groups.{Sample}
use Rattle.flow_aggregate.specs.Counts.{Count}
use Rattle.flow_aggregate.specs.Additions.{AreReadyToAdd}
use Rattle.flow_aggregate.specs.Closing.{closed_by}
use Rattle.flow_aggregate.specs.Running.{HeldGroups, Entries, nothing_held, SumsStand as StandsForRecords, staying}
use Rattle.mediator_tables.specs.GroupTable.{held_at, groups_at}
use Rattle.mediator_tables.specs.Adding.{AllReady, added_to}
use Rattle.mediator_tables.proofs.GroupTableLaws.{held_none, none_closed}
use Rattle.mediator_tables.specs.SubscriptionTable.{given_to}
use Rattle.history_verify.specs.declared.sums.Sums.{Sums}
use Rattle.history_verify.specs.Parts.{AreSums, IsWithout}

none_stand : StandsForRecords [] []
none_stand g = refl

pub sums_new : (s : Sums) → ((q : ℕ) → held_at s.groups q ≡ nothing_held) → AreSums s []
sums_new s none = record {
  groups = λ sub. subst (λ (es : Entries). StandsForRecords es []) (sym (ap (λ (held : HeldGroups). held.groups) (none sub))) none_stand;
}

pub sums_close : (s d : Sums) (h g : List Entry) (t : ℕ) → ((q : ℕ) (counted : List Sample) → StandsForRecords (groups_at s.groups q) counted → StandsForRecords (groups_at d.groups q) (staying t counted))
    → AreSums s h → ((q : ℕ) → running q g ≡ staying t (running q h)) → AreSums d g
sums_close s d h g t stays so same = record {
  groups = λ q. subst (StandsForRecords (groups_at d.groups q)) (sym (same q)) (stays q (running q h) (so.groups q));
}

-- ---- groups of a subscription are dropped

pub sums_without : (s d : Sums) (h g : List Entry) (sub : ℕ) → IsWithout s sub d → AreSums s h → running sub g ≡ [] → ((q : ℕ) → q ≢ sub → running q g ≡ running q h) → AreSums d g
sums_without s d h g sub is so none same = record { groups = λ q. group q (q == sub) refl } where
  group : (q : ℕ) (here : Bool) → (q == sub) ≡ here → StandsForRecords (groups_at d.groups q) (running q g)
  group q true on =
      subst (λ (n : ℕ). StandsForRecords (groups_at d.groups n) (running n g)) (sym (eqb-true q sub on))
      (subst (StandsForRecords (groups_at d.groups sub)) (sym none) (subst (λ (es : Entries). StandsForRecords es []) (sym (ap (λ (held : HeldGroups). held.groups) is.gone)) none_stand))
  group q false off =
      let other : q ≢ sub = eqb-false q sub off in
      subst (StandsForRecords (groups_at d.groups q)) (sym (same q other)) (subst (λ (es : Entries). StandsForRecords es (running q h)) (sym (ap (λ (held : HeldGroups). held.groups) (is.others q other))) (so.groups q))

-- of the subscriptions of a list, nothing is held, and all else is as before
pub record AreWithout (old : Sums) (subs : List ℕ) (new : Sums) : Type 0 where
  pub held : (q : ℕ) → held_at new.groups q ≡ cond (is_in q subs) nothing_held (held_at old.groups q)
  pub places : keys_of new.groups ≡ keys_of old.groups

pub without_none : (s : Sums) → AreWithout s [] s
without_none s = record { held = λ q. refl; places = refl }

pub without_more : (s d e : Sums) (subs : List ℕ) (sub : ℕ) → ((q : ℕ) → is_in q (subs ++ sub ∷ []) ≡ cond (q == sub) true (is_in q subs)) → AreWithout s subs d → IsWithout d sub e → AreWithout s (subs ++ sub ∷ []) e
without_more s d e subs sub among so is = record {
  held = λ q. by q (q == sub) refl ∙ ap (λ b. cond b nothing_held (held_at s.groups q)) (sym (among q));
  places = is.places ∙ so.places;
} where
  by : (q : ℕ) (here : Bool) → (q == sub) ≡ here → held_at e.groups q ≡ cond (cond (q == sub) true (is_in q subs)) nothing_held (held_at s.groups q)
  by q true on =
      let one : q ≡ sub = eqb-true q sub on in
      ap (held_at e.groups) one ∙ is.gone ∙ ap (λ b. cond (cond b true (is_in q subs)) nothing_held (held_at s.groups q)) (sym on)
  by q false off = is.others q (eqb-false q sub off) ∙ so.held q ∙ ap (λ b. cond (cond b true (is_in q subs)) nothing_held (held_at s.groups q)) (sym off)

pub sums_gone : (s d : Sums) (subs : List ℕ) (h g : List Entry) → AreWithout s subs d → AreSums s h → ((q : ℕ) → is_in q subs ≡ true → running q g ≡ [])
    → ((q : ℕ) → (is_in q subs ≡ true → ⊥) → running q g ≡ running q h) → AreSums d g
sums_gone s d subs h g is so gone same = record { groups = λ q. group q (is_in q subs) refl } where
  group : (q : ℕ) (b : Bool) → is_in q subs ≡ b → StandsForRecords (groups_at d.groups q) (running q g)
  group q true on =
      subst (StandsForRecords (groups_at d.groups q)) (sym (gone q on))
      (subst (λ (held : HeldGroups). StandsForRecords held.groups []) (sym (is.held q ∙ ap (λ b. cond b nothing_held (held_at s.groups q)) on)) none_stand)
  group q false off =
      subst (StandsForRecords (groups_at d.groups q)) (sym (same q (λ on. true≢false (sym on ∙ off))))
      (subst (λ (held : HeldGroups). StandsForRecords held.groups (running q h)) (sym (is.held q ∙ ap (λ b. cond b nothing_held (held_at s.groups q)) off)) (so.groups q))

-- what is ready stays so, where nothing is added for those that are dropped
pub ready_without : (s d : Sums) (subs : List ℕ) → AreWithout s subs d → (rs : List (ℕ × List Addition)) (ts : List (ℕ × List Count)) → AllReady s.groups rs ts
    → ((q : ℕ) → is_in q subs ≡ true → added_to q ts ≡ []) → AllReady d.groups rs ts
ready_without s d subs is [] [] ready none = tt
ready_without s d subs is [] (t ∷ ts) ready none = absurd ready
ready_without s d subs is (r ∷ rs) [] ready none = absurd ready
ready_without s d subs is (r ∷ rs) (t ∷ ts) ready none = (
  (λ some. ap (λ (ks : List ℕ). slice_get ks r.0) is.places ∙ ready.0.0 some, one (is_in t.0 subs) refl),
  ready_without s d subs is rs ts ready.1 (λ q on. (none_both (cond (t.0 == q) t.1 []) (added_to q ts) (none q on)).1),
) where
  none_both : (xs ys : List Count) → xs ++ ys ≡ [] → (xs ≡ []) × (ys ≡ [])
  none_both [] ys none = (refl, none)
  none_both (x ∷ xs) ys none = absurd cc

  unready : (additions : List Addition) → AreReadyToAdd (held_at s.groups t.0) additions [] → AreReadyToAdd nothing_held additions []
  unready [] made = record { each = tt; wanted = tt }
  unready (a ∷ more) made = absurd made.each

  one : (b : Bool) → is_in t.0 subs ≡ b → AreReadyToAdd (held_at d.groups t.0) r.1 t.1
  one true on =
      let empty : t.1 ≡ [] = ap (λ b. cond b t.1 []) (sym (eq-eqb t.0 t.0 refl)) ∙ (none_both (cond (t.0 == t.0) t.1 []) (added_to t.0 ts) (none t.0 on)).0 in
      subst (λ (held : HeldGroups). AreReadyToAdd held r.1 t.1) (sym (is.held t.0 ∙ ap (λ b. cond b nothing_held (held_at s.groups t.0)) on))
      (subst (AreReadyToAdd nothing_held r.1) (sym empty) (unready r.1 (subst (AreReadyToAdd (held_at s.groups t.0) r.1) empty ready.0.1)))
  one false off = subst (λ (held : HeldGroups). AreReadyToAdd held r.1 t.1) (sym (is.held t.0 ∙ ap (λ b. cond b nothing_held (held_at s.groups t.0)) off)) ready.0.1

-- ---- what closes, subscription by subscription

-- shares of these subscriptions, of which each is what closes
abbrev pub closing_shares : (ℕ → List DataRecord) → List ℕ → List (ℕ × List DataRecord)
closing_shares closes subs = map (λ sub. (sub, closes sub)) subs

-- the same of what has the numbers
pub closing_by : {X : Type 0} (number : X → ℕ) (closes : ℕ → List DataRecord) (xs : List X) → map (λ x. (number x, closes (number x))) xs ≡ closing_shares closes (map number xs)
closing_by number closes [] = refl
closing_by number closes (x ∷ xs) = ap (λ (ss : List (ℕ × List DataRecord)). (number x, closes (number x)) ∷ ss) (closing_by number closes xs)

pub one_closing : (closes : ℕ → List DataRecord) (subs : List ℕ) (i sub : ℕ) (shares shares2 : List (ℕ × List DataRecord)) (share : ℕ × List DataRecord) → i < length subs → sub ≡ get_or subs i sub
    → share ≡ (sub, closes sub) → shares2 ≡ shares ++ share ∷ [] → shares ≡ closing_shares closes (take i subs) → shares2 ≡ closing_shares closes (take (i + 1) subs)
one_closing closes subs i sub shares shares2 share within at is pushed so =
    pushed ∙ ap (λ ss. ss ++ share ∷ []) so ∙ ap (λ s. closing_shares closes (take i subs) ++ s ∷ []) is
    ∙ sym (ap (closing_shares closes) (take_more subs i sub within) ∙ map-append (λ n. (n, closes n)) (take i subs) (get_or subs i sub ∷ [])
    ∙ ap (λ n. closing_shares closes (take i subs) ++ (n, closes n) ∷ []) (sym at))

apart_none : (closes : ℕ → List DataRecord) (subs : List ℕ) (q : ℕ) → AllByRecursion (λ k. eqb q k ≡ false) subs → given_to q (closing_shares closes subs) ≡ []
apart_none closes [] q apart = refl
apart_none closes (s ∷ subs) q apart =
    ap (λ b. cond b (closes s) [] ++ given_to q (closing_shares closes subs)) (ne_eqb s q (λ same. eqb-false q s apart.0 (sym same))) ∙ apart_none closes subs q apart.1

nothing_more : (rs : List DataRecord) → rs ++ [] ≡ rs
nothing_more [] = refl
nothing_more (r ∷ rs) = ap (λ (ss : List DataRecord). r ∷ ss) (nothing_more rs)

given_closing : (closes : ℕ → List DataRecord) (subs : List ℕ) (q : ℕ) → IsDistinct eqb subs → (AllByRecursion (λ k. eqb q k ≡ false) subs → closes q ≡ []) → given_to q (closing_shares closes subs) ≡ closes q
unfolding IsDistinct
given_closing closes [] q distinct none = sym (none tt)
given_closing closes (s ∷ subs) q distinct none = by (s == q) refl (given_closing closes subs q distinct.1) where
  by : (b : Bool) → (s == q) ≡ b → ((AllByRecursion (λ k. eqb q k ≡ false) subs → closes q ≡ []) → given_to q (closing_shares closes subs) ≡ closes q)
      → cond b (closes s) [] ++ given_to q (closing_shares closes subs) ≡ closes q
  by true on rest =
      let one : s ≡ q = eqb-true s q on in
      ap (λ gs. closes s ++ gs) (apart_none closes subs q (subst (λ n. AllByRecursion (λ k. eqb n k ≡ false) subs) one distinct.0)) ∙ nothing_more (closes s) ∙ ap closes one
  by false off rest = rest (λ apart. none (ne_eqb q s (λ same. eqb-false s q off (sym same)), apart))

pub all_closing : (s : Sums) (t : ℕ) (shares : List (ℕ × List DataRecord)) (subs : List ℕ) (h : List Entry) → subs ≡ keys_of s.groups → IsDistinct eqb (keys_of s.groups)
    → shares ≡ closing_shares (λ sub. closed_by t (running sub h)) subs → AreSums s h → (sub : ℕ) → given_to sub shares ≡ closed_by t (running sub h)
all_closing s t shares subs h are once closes so sub =
    ap (given_to sub) closes ∙ ap (λ ns. given_to sub (closing_shares (λ n. closed_by t (running n h)) ns)) are
    ∙ given_closing (λ n. closed_by t (running n h)) (keys_of s.groups) sub once
    (λ apart. sym (none_closed t (running sub h) (subst (λ (held : HeldGroups). StandsForRecords held.groups (running sub h)) (held_none s.groups sub apart) (so.groups sub))))
