-- The groups that are listed up to a time are those that are due, and what is closed of them is what closes.
use Rattle.std.proofs.Common.{◌≡◌, ℕ, zero, suc, ◌<◌, ◌≤◌, eqb, ltb, leb, take, Bool, true, false, cond, not, ◌&&◌, ◌||◌, List, [], ◌∷◌, ◌++◌, slice_get, Option, Some, None, is_some, nat_cmp, is_lt, Less, Equal, Greater, refl, sym, ap, ◌∙◌, subst, arith, append_assoc, append-nil}
use Rattle.std.specs.Prelude.{position}
use Rattle.std.specs.Global.{Vec}
use Rattle.std.specs.Option.{option_map}
use Rattle.std.specs.List.{AllByRecursion, IsDistinct, list_any, flat_map}
use Rattle.std.specs.List.Sorted.{IsStrictlySortedBy}
use Rattle.std.specs.Map.{keys_of}
use Rattle.std.specs.declared.ops.Bound.TheVariants.{Included, Unbounded}
use Rattle.std.specs.BTreeMap.{is_at}
use Rattle.std.specs.BTreeMap.Range.{entries_between}
use Rattle.std.proofs.lemmas.Bool.{eqb-true, eqb-false, eq-eqb, ne_eqb, ltb-true, ltb-false, le-leb, lt-leb, and_right, or_left, or_right}
use Rattle.std.proofs.lemmas.List.Concat.{flat_map-append}
use Rattle.std.proofs.lemmas.List.Folds.{list_any-append}
use Rattle.std.proofs.lemmas.Map.Keys.{sorted_head, sorted_tail}
use Rattle.std.proofs.lemmas.Option.{same_Some, slice_get-map}
use Rattle.flow_aggregate.specs.declared.sums.Sums.{Sums}
use Rattle.flow_aggregate.specs.declared.closed.ClosedAggregate.{ClosedAggregate}
use Rattle.flow_aggregate.specs.Groups.{Group}
use Rattle.flow_aggregate.specs.GroupOrder.{same_group, same_group-is, same_group-itself, same_group-whole}
use Rattle.flow_aggregate.specs.Running.{Entries, HeldGroups, held_of, sums_at, is_due, pairs_of, sums_in, closed_one, closed_with, closed_at, closed_among, AreDue}
use Rattle.flow_aggregate.specs.Agenda.{Timed, time_of, listed_at, AreListed}
use Rattle.flow_aggregate.proofs.EntryLaws.{all_at}
use Rattle.flow_aggregate.proofs.PlaceLaws.{found_place}
use Rattle.flow_aggregate.proofs.AgendaLaws.{is_time, not_at}

-- ---- the sums of a group, by its place

one_of : (e d : Group × Sums) → Some e ≡ Some d → e ≡ d
one_of e d is = cc

other_key : (e : Group × Sums) (es : Entries) (g : Group) (s : Sums) (i : ℕ) → AllByRecursion (λ y. same_group e.0 y ≡ false) (keys_of es) → slice_get es i ≡ Some (g, s) → same_group g e.0 ≡ false
other_key e es g s i others at =
    let there : slice_get (keys_of es) i ≡ Some g = slice_get-map (λ (d : Group × Sums). d.0) es i ∙ ap (option_map (λ (d : Group × Sums). d.0)) at in
    same_group-whole.symm g e.0 ∙ all_at (λ y. same_group e.0 y ≡ false) (keys_of es) i g others there

-- among those in which records count
counted_at : (n : ℕ) (es : Entries) (i : ℕ) (g : Group) (s : Sums) → IsDistinct same_group (keys_of es) → slice_get es i ≡ Some (g, s) → i < n → sums_at (take n es) g ≡ Some s
unfolding IsDistinct
counted_at zero es i g s once at within = absurd (omega (arith, within))
counted_at (suc n) [] i g s once at within = absurd cc
counted_at (suc n) (e ∷ es) zero g s once at within =
    let is : e ≡ (g, s) = one_of e (g, s) at in
    let itself : same_group g e.0 ≡ true = ap (λ (d : Group × Sums). same_group g d.0) is ∙ same_group-itself g in
    ap (λ b. cond b (Some e.1) (sums_at (take n es) g)) itself ∙ ap (λ (d : Group × Sums). Some d.1) is
counted_at (suc n) (e ∷ es) (suc i) g s once at within =
    ap (λ b. cond b (Some e.1) (sums_at (take n es) g)) (other_key e es g s i once.0 at) ∙ counted_at n es i g s once.1 at (omega (arith, within))

-- behind them
ready_at : (n : ℕ) (es : Entries) (i : ℕ) (g : Group) (s : Sums) → IsDistinct same_group (keys_of es) → slice_get es i ≡ Some (g, s) → n ≤ i → sums_at (take n es) g ≡ None
unfolding IsDistinct
ready_at zero es i g s once at past = refl
ready_at (suc n) [] i g s once at past = refl
ready_at (suc n) (e ∷ es) zero g s once at past = absurd (omega (arith, past))
ready_at (suc n) (e ∷ es) (suc i) g s once at past =
    ap (λ b. cond b (Some e.1) (sums_at (take n es) g)) (other_key e es g s i once.0 at) ∙ ready_at n es i g s once.1 at (omega (arith, past))

pub none_at : (n : ℕ) (es : Entries) (g : Group) → sums_at es g ≡ None → sums_at (take n es) g ≡ None
none_at zero es g none = refl
none_at (suc n) [] g none = refl
none_at (suc n) (e ∷ es) g none = by (same_group g e.0) none (none_at n es g) where
  by : (b : Bool) → cond b (Some e.1) (sums_at es g) ≡ None → (sums_at es g ≡ None → sums_at (take n es) g ≡ None) → cond b (Some e.1) (sums_at (take n es) g) ≡ None
  by true is rest = absurd cc
  by false is rest = rest is

the_key : (es : Entries) (i : ℕ) (g k : Group) (s : Sums) → position (same_group g) (keys_of es) ≡ Some i → Some (k, s) ≡ slice_get es i → slice_get es i ≡ Some (g, s)
the_key es i g k s found there =
    let key : slice_get (keys_of es) i ≡ Some k = slice_get-map (λ (d : Group × Sums). d.0) es i ∙ ap (option_map (λ (d : Group × Sums). d.0)) (sym there) in
    let one : k ≡ g = same_Some k g (sym key ∙ found_place (keys_of es) g i found) in
    sym there ∙ ap (λ (h : Group). Some (h, s)) one

-- a group that was found at a place where records count
pub place_counted : (n : ℕ) (es : Entries) (i : ℕ) (g k : Group) (s : Sums) → IsDistinct same_group (keys_of es) → position (same_group g) (keys_of es) ≡ Some i → Some (k, s) ≡ slice_get es i
    → i < n → sums_at (take n es) g ≡ Some s
place_counted n es i g k s once found there within = counted_at n es i g s once (the_key es i g k s found there) within

-- behind them
pub place_ready : (n : ℕ) (es : Entries) (i : ℕ) (g k : Group) (s : Sums) → IsDistinct same_group (keys_of es) → position (same_group g) (keys_of es) ≡ Some i → Some (k, s) ≡ slice_get es i
    → n ≤ i → sums_at (take n es) g ≡ None
place_ready n es i g k s once found there past = ready_at n es i g s once (the_key es i g k s found there) past

-- ---- lists up to a time

abbrev pub up_to : ℕ → Timed → Timed
up_to t agenda = entries_between nat_cmp Unbounded (Included t) agenda

abbrev pub all_listed : Timed → List Group
all_listed agenda = flat_map (λ e. e.1.items) agenda

reached : (t q : ℕ) → not (is_lt (nat_cmp t q)) ≡ leb q t
reached t q = by (ltb t q) refl where
  below : (b : Bool) → not (is_lt (cond b Equal Greater)) ≡ true
  below true = refl
  below false = refl

  by : (b : Bool) → ltb t q ≡ b → not (is_lt (cond b Less (cond (eqb t q) Equal Greater))) ≡ leb q t
  by true e = sym (lt-leb q t (ltb-true t q e))
  by false e = below (eqb t q) ∙ sym (le-leb q t (ltb-false t q e))

absent : (time : ℕ) (agenda : Timed) → AllByRecursion (λ y. nat_cmp time y ≡ Less) (keys_of agenda) → listed_at agenda time ≡ []
absent time [] later = refl
absent time (e ∷ es) later = rw later.0 (absent time es later.1)

-- what holds of all lists holds of the first, and of those behind it
head_listed : (e : ℕ × Vec Group) (es : Timed) → listed_at (e ∷ es) e.0 ≡ e.1.items
head_listed e es = rw (is_time e.0 e.0 ∙ eq-eqb e.0 e.0 refl) refl

tail_listed : (P : ℕ → List Group → Type 0) → ((time : ℕ) → P time []) → (e : ℕ × Vec Group) (es : Timed) → listed_at es e.0 ≡ []
    → ((time : ℕ) → P time (listed_at (e ∷ es) time)) → (time : ℕ) → P time (listed_at es time)
tail_listed P nothing e es gone all time = by (is_at (nat_cmp time) e.0) refl where
  by : (b : Bool) → is_at (nat_cmp time) e.0 ≡ b → P time (listed_at es time)
  by true is =
      let same : time ≡ e.0 = eqb-true time e.0 (sym (is_time time e.0) ∙ is) in
      subst (λ (gs : List Group). P time gs) (sym (ap (λ t. listed_at es t) same ∙ gone)) (nothing time)
  by false is =
      let behind : listed_at (e ∷ es) time ≡ listed_at es time = rw is refl in
      subst (λ (gs : List Group). P time gs) behind (all time)

abbrev AreTimed : Timed → Type 0
AreTimed agenda = (time : ℕ) → AllByRecursion (λ g. time_of g ≡ time) (listed_at agenda time)

abbrev AreOnce : Timed → Type 0
AreOnce agenda = (time : ℕ) → IsDistinct same_group (listed_at agenda time)

gone_behind : (e : ℕ × Vec Group) (es : Timed) → IsStrictlySortedBy nat_cmp (keys_of (e ∷ es)) → listed_at es e.0 ≡ []
gone_behind e es sorted = absent e.0 es (sorted_head nat_cmp e.0 (keys_of es) sorted)

timed_behind : (e : ℕ × Vec Group) (es : Timed) → IsStrictlySortedBy nat_cmp (keys_of (e ∷ es)) → AreTimed (e ∷ es) → AreTimed es
timed_behind e es sorted timed = tail_listed (λ time gs. AllByRecursion (λ g. time_of g ≡ time) gs) (λ time. tt) e es (gone_behind e es sorted) timed

once_behind : (e : ℕ × Vec Group) (es : Timed) → IsStrictlySortedBy nat_cmp (keys_of (e ∷ es)) → AreOnce (e ∷ es) → AreOnce es
unfolding IsDistinct
once_behind e es sorted once = tail_listed (λ time gs. IsDistinct same_group gs) (λ time. tt) e es (gone_behind e es sorted) once

timed_first : (e : ℕ × Vec Group) (es : Timed) → AreTimed (e ∷ es) → AllByRecursion (λ g. time_of g ≡ e.0) e.1.items
timed_first e es timed = subst (λ (gs : List Group). AllByRecursion (λ g. time_of g ≡ e.0) gs) (head_listed e es) (timed e.0)

-- a group is listed up to t where it is due and is listed for its time
among_due : (t : ℕ) (agenda : Timed) (g : Group) → IsStrictlySortedBy nat_cmp (keys_of agenda) → AreTimed agenda
    → list_any (same_group g) (all_listed (up_to t agenda)) ≡ (is_due t g && list_any (same_group g) (listed_at agenda (time_of g)))
among_due t [] g sorted timed = sym (and_right (is_due t g) false refl)
among_due t (e ∷ es) g sorted timed =
    ap (λ b. list_any (same_group g) (all_listed (cond b (e ∷ up_to t es) (up_to t es)))) (reached t e.0)
    ∙ by (eqb (time_of g) e.0) refl (among_due t es g (sorted_tail nat_cmp e.0 (keys_of es) sorted) (timed_behind e es sorted timed))
  where
    rest : List Group
    rest = all_listed (up_to t es)

    joined : (b : Bool) → list_any (same_group g) (all_listed (cond b (e ∷ up_to t es) (up_to t es)))
        ≡ cond b (list_any (same_group g) e.1.items || list_any (same_group g) rest) (list_any (same_group g) rest)
    joined true = list_any-append (same_group g) e.1.items rest
    joined false = refl

    here : (b x y : Bool) → y ≡ false → cond b (x || y) y ≡ (b && x)
    here true true y is = refl
    here true false y is = is
    here false x y is = is

    elsewhere : (b x y : Bool) → x ≡ false → cond b (x || y) y ≡ y
    elsewhere true x y is = ap (λ z. z || y) is
    elsewhere false x y is = refl

    by : (c : Bool) → eqb (time_of g) e.0 ≡ c → list_any (same_group g) rest ≡ (is_due t g && list_any (same_group g) (listed_at es (time_of g)))
        → list_any (same_group g) (all_listed (cond (leb e.0 t) (e ∷ up_to t es) (up_to t es))) ≡ (is_due t g && list_any (same_group g) (listed_at (e ∷ es) (time_of g)))
    by true is behind =
        let same : time_of g ≡ e.0 = eqb-true (time_of g) e.0 is in
        let gone : listed_at es (time_of g) ≡ [] = ap (λ q. listed_at es q) same ∙ gone_behind e es sorted in
        let none : list_any (same_group g) rest ≡ false = behind ∙ and_right (is_due t g) _ (ap (list_any (same_group g)) gone) in
        let first : listed_at (e ∷ es) (time_of g) ≡ e.1.items = ap (λ q. listed_at (e ∷ es) q) same ∙ head_listed e es in
        joined (leb e.0 t) ∙ here (leb e.0 t) (list_any (same_group g) e.1.items) (list_any (same_group g) rest) none
        ∙ ap (λ q. leb q t && list_any (same_group g) e.1.items) (sym same) ∙ ap (λ (gs : List Group). is_due t g && list_any (same_group g) gs) (sym first)
    by false is behind =
        let differ : eqb e.0 (time_of g) ≡ false = ne_eqb e.0 (time_of g) (λ same. eqb-false (time_of g) e.0 is (sym same)) in
        let none : list_any (same_group g) e.1.items ≡ false = not_at e.0 g e.1.items (timed_first e es timed) differ in
        let later : listed_at (e ∷ es) (time_of g) ≡ listed_at es (time_of g) = rw (is_time (time_of g) e.0 ∙ is) refl in
        joined (leb e.0 t) ∙ elsewhere (leb e.0 t) (list_any (same_group g) e.1.items) (list_any (same_group g) rest) none
        ∙ behind ∙ ap (λ (gs : List Group). is_due t g && list_any (same_group g) gs) (sym later)

-- ---- each is listed once

apart_from : (x : Group) (ys : List Group) → list_any (same_group x) ys ≡ false → AllByRecursion (λ y. same_group x y ≡ false) ys
apart_from x [] none = tt
apart_from x (y ∷ ys) none = by (same_group x y) refl none (apart_from x ys) where
  by : (b : Bool) → same_group x y ≡ b → (b || list_any (same_group x) ys) ≡ false → (list_any (same_group x) ys ≡ false → AllByRecursion (λ z. same_group x z ≡ false) ys)
      → (same_group x y ≡ false) × AllByRecursion (λ z. same_group x z ≡ false) ys
  by true is all rest = absurd cc
  by false is all rest = (is, rest all)

all_joined : (P : Group → Type 0) (xs ys : List Group) → AllByRecursion P xs → AllByRecursion P ys → AllByRecursion P (xs ++ ys)
all_joined P [] ys one two = two
all_joined P (x ∷ xs) ys one two = (one.0, all_joined P xs ys one.1 two)

joined_once : (xs ys : List Group) → IsDistinct same_group xs → IsDistinct same_group ys → ((q : Group) → list_any (same_group q) xs ≡ true → list_any (same_group q) ys ≡ false)
    → IsDistinct same_group (xs ++ ys)
unfolding IsDistinct
joined_once [] ys one two apart = two
joined_once (x ∷ xs) ys one two apart = (
  all_joined (λ y. same_group x y ≡ false) xs ys one.0 (apart_from x ys (apart x (or_left (same_group x x) (list_any (same_group x) xs) (same_group-itself x)))),
  joined_once xs ys one.1 two (λ q there. apart q (or_right (same_group q x) (list_any (same_group q) xs) there)),
)

once_due : (t : ℕ) (agenda : Timed) → IsStrictlySortedBy nat_cmp (keys_of agenda) → AreTimed agenda → AreOnce agenda → IsDistinct same_group (all_listed (up_to t agenda))
unfolding IsDistinct
once_due t [] sorted timed once = tt
once_due t (e ∷ es) sorted timed once =
    by (not (is_lt (nat_cmp t e.0))) (once_due t es (sorted_tail nat_cmp e.0 (keys_of es) sorted) (timed_behind e es sorted timed) (once_behind e es sorted once))
  where
    first : IsDistinct same_group e.1.items
    first = subst (λ (gs : List Group). IsDistinct same_group gs) (head_listed e es) (once e.0)

    apart : (q : Group) → list_any (same_group q) e.1.items ≡ true → list_any (same_group q) (all_listed (up_to t es)) ≡ false
    apart q there = at (eqb e.0 (time_of q)) refl where
      at : (b : Bool) → eqb e.0 (time_of q) ≡ b → list_any (same_group q) (all_listed (up_to t es)) ≡ false
      at true is =
          let gone : listed_at es (time_of q) ≡ [] = ap (λ time. listed_at es time) (sym (eqb-true e.0 (time_of q) is)) ∙ gone_behind e es sorted in
          among_due t es q (sorted_tail nat_cmp e.0 (keys_of es) sorted) (timed_behind e es sorted timed) ∙ and_right (is_due t q) _ (ap (list_any (same_group q)) gone)
      at false is =
          let none : list_any (same_group q) e.1.items ≡ false = not_at e.0 q e.1.items (timed_first e es timed) is in
          absurd (let x : true ≡ false = sym there ∙ none in cc)

    by : (b : Bool) → IsDistinct same_group (all_listed (up_to t es)) → IsDistinct same_group (all_listed (cond b (e ∷ up_to t es) (up_to t es)))
    by true rest = joined_once e.1.items (all_listed (up_to t es)) first rest apart
    by false rest = rest

-- ---- what is closed of groups

all_closed : (P : Group → Type 0) (es : Entries) (gs : List Group) → AllByRecursion P gs → AllByRecursion P (keys_of (pairs_of (closed_among es gs)))
all_closed P es [] all = tt
all_closed P es (g ∷ gs) all = by (sums_at es g) (all_closed P es gs all.1) where
  by : (o : Option Sums) → AllByRecursion P (keys_of (pairs_of (closed_among es gs))) → AllByRecursion P (keys_of (pairs_of (closed_with g o ++ closed_among es gs)))
  by None rest = rest
  by (Some s) rest = (all.0, rest)

closed_once : (es : Entries) (gs : List Group) → IsDistinct same_group gs → IsDistinct same_group (keys_of (pairs_of (closed_among es gs)))
unfolding IsDistinct
closed_once es [] once = tt
closed_once es (g ∷ gs) once = by (sums_at es g) (closed_once es gs once.1) where
  by : (o : Option Sums) → IsDistinct same_group (keys_of (pairs_of (closed_among es gs))) → IsDistinct same_group (keys_of (pairs_of (closed_with g o ++ closed_among es gs)))
  by None rest = rest
  by (Some s) rest = (all_closed (λ y. same_group g y ≡ false) es gs once.0, rest)

closed_look : (es : Entries) (gs : List Group) (g : Group) → sums_in (closed_among es gs) g ≡ cond (list_any (same_group g) gs) (sums_at es g) None
closed_look es [] g = refl
closed_look es (h ∷ gs) g = by (same_group g h) (sums_at es h) refl refl (closed_look es gs g) where
  by : (b : Bool) (o : Option Sums) → same_group g h ≡ b → sums_at es h ≡ o → sums_in (closed_among es gs) g ≡ cond (list_any (same_group g) gs) (sums_at es g) None
      → sums_in (closed_with h o ++ closed_among es gs) g ≡ cond (b || list_any (same_group g) gs) (sums_at es g) None
  by true None is none rest =
      let gone : sums_at es g ≡ None = ap (sums_at es) (same_group-is g h is) ∙ none in
      rest ∙ none_both (list_any (same_group g) gs) gone ∙ sym gone
    where
      none_both : (c : Bool) → sums_at es g ≡ None → cond c (sums_at es g) None ≡ None
      none_both true gone = gone
      none_both false gone = refl
  by true (Some s) is there rest =
      ap (λ b. cond b (Some s) (sums_in (closed_among es gs) g)) is ∙ sym (ap (sums_at es) (same_group-is g h is) ∙ there)
  by false None is none rest = rest
  by false (Some s) is there rest = ap (λ b. cond b (Some s) (sums_in (closed_among es gs) g)) is ∙ rest

-- what is closed, list by list
abbrev pub closed_listed : Entries → Timed → List ClosedAggregate
closed_listed es agenda = flat_map (λ e. closed_among es e.1.items) agenda

closed_joined : (es : Entries) (agenda : Timed) → closed_listed es agenda ≡ closed_among es (all_listed agenda)
closed_joined es [] = refl
closed_joined es (e ∷ agenda) =
    ap (λ (cs : List ClosedAggregate). closed_among es e.1.items ++ cs) (closed_joined es agenda) ∙ sym (flat_map-append (closed_at es) e.1.items (all_listed agenda))

-- of the groups of all entries those that count are due, by their lists
looked_up : (t n : ℕ) (es : Entries) (agenda : Timed) (due : List ClosedAggregate) → AreListed es agenda → IsStrictlySortedBy nat_cmp (keys_of agenda)
    → due ≡ closed_listed (take n es) (up_to t agenda) → AreDue t (take n es) due
looked_up t n es agenda due listed sorted is =
    subst (λ (cs : List ClosedAggregate). AreDue t (take n es) cs) (sym (is ∙ closed_joined (take n es) (up_to t agenda))) (record {
      once = closed_once (take n es) groups (once_due t agenda sorted listed.times listed.once);
      sums = λ g. closed_look (take n es) groups g ∙ ap (λ b. cond b (sums_at (take n es) g) None) (among_due t agenda g sorted listed.times) ∙ by g (is_due t g) (sums_at es g) refl;
    })
  where
    groups : List Group
    groups = all_listed (up_to t agenda)

    by : (g : Group) (b : Bool) (o : Option Sums) → sums_at es g ≡ o
        → cond (b && list_any (same_group g) (listed_at agenda (time_of g))) (sums_at (take n es) g) None ≡ cond b (sums_at (take n es) g) None
    by g false o is = refl
    by g true None is =
        let gone : sums_at (take n es) g ≡ None = none_at n es g is in
        ap (λ b. cond b (sums_at (take n es) g) None) (listed.those g ∙ ap is_some is) ∙ sym gone
    by g true (Some s) is = ap (λ b. cond b (sums_at (take n es) g) None) (listed.those g ∙ ap is_some is)

-- one more list
pub more_lists : (es : Entries) (e : ℕ × Vec Group) (before after : Timed) (so_far more all : List ClosedAggregate) → before ≡ e ∷ after → more ≡ so_far ++ closed_among es e.1.items
    → so_far ++ closed_listed es before ≡ all → more ++ closed_listed es after ≡ all
more_lists es e before after so_far more all is grown so =
    ap (λ (cs : List ClosedAggregate). cs ++ closed_listed es after) grown ∙ append_assoc so_far (closed_among es e.1.items) (closed_listed es after)
    ∙ ap (λ (ag : Timed). so_far ++ closed_listed es ag) (sym is) ∙ so

-- of the lists up to a time none is left
pub found_by_lists : (t n : ℕ) (es : Entries) (agenda begun left : Timed) (held : HeldGroups) (due : List ClosedAggregate) → held_of n es ≡ held → AreListed es agenda
    → IsStrictlySortedBy nat_cmp (keys_of agenda) → begun ≡ up_to t agenda → left ≡ [] → due ++ closed_listed held.groups left ≡ closed_listed held.groups begun → AreDue t held.groups due
found_by_lists t n es agenda begun left held due same listed sorted first none so =
    let all : due ≡ closed_listed held.groups (up_to t agenda) =
    sym (append-nil due) ∙ ap (λ (ag : Timed). due ++ closed_listed held.groups ag) (sym none) ∙ so ∙ ap (λ (ag : Timed). closed_listed held.groups ag) first in
    subst (λ (d : HeldGroups). AreDue t d.groups due) same
    (looked_up t n es agenda due listed sorted (all ∙ ap (λ (d : HeldGroups). closed_listed d.groups (up_to t agenda)) (sym same)))

-- ---- what is appended for one group

-- it is found among those in which records count
pub put_counted : (n : ℕ) (es : Entries) (held : HeldGroups) (i : ℕ) (g k h : Group) (s : Sums) (x : ClosedAggregate) (due after : List ClosedAggregate) → held_of n es ≡ held
    → IsDistinct same_group (keys_of es) → position (same_group g) (keys_of es) ≡ Some i → Some (k, s) ≡ slice_get es i → i < n → h ≡ g → x ≡ closed_one h s → after ≡ due ++ x ∷ []
    → after ≡ due ++ closed_at held.groups g
put_counted n es held i g k h s x due after same once found there within is made pushed =
    let sums : sums_at held.groups g ≡ Some s = ap (λ (d : HeldGroups). sums_at d.groups g) (sym same) ∙ place_counted n es i g k s once found there within in
    pushed ∙ ap (λ (c : ClosedAggregate). due ++ c ∷ []) (made ∙ ap (λ (j : Group). closed_one j s) is) ∙ ap (λ (o : Option Sums). due ++ closed_with g o) (sym sums)

-- it isn't
pub put_none : (n : ℕ) (es : Entries) (held : HeldGroups) (g : Group) (due : List ClosedAggregate) → held_of n es ≡ held → sums_at (take n es) g ≡ None → due ≡ due ++ closed_at held.groups g
put_none n es held g due same none =
    let sums : sums_at held.groups g ≡ None = ap (λ (d : HeldGroups). sums_at d.groups g) (sym same) ∙ none in
    sym (append-nil due) ∙ ap (λ (o : Option Sums). due ++ closed_with g o) (sym sums)
