-- Lists of groups by their times, and that they stay in step with the groups that are kept.
use Rattle.std.proofs.Common.{◌≡◌, ℕ, zero, suc, ◌+◌, ◌-◌, ◌<◌, ◌≤◌, eqb, leb, length, take, drop, get_or, Bool, true, false, cond, not, ◌&&◌, ◌||◌, List, [], ◌∷◌, ◌++◌, filter, slice_get, Option, Some, None, is_some, BTreeMap, nat_cmp, refl, sym, ap, ◌∙◌, subst, arith}
use Rattle.std.specs.Prelude.{IfSome, remove}
use Rattle.std.specs.Global.{Vec}
use Rattle.std.specs.List.{AllByRecursion, IsDistinct, list_any}
use Rattle.std.specs.Map.{keys_of}
use Rattle.std.specs.Cmp.{unsigned_tied}
use Rattle.std.specs.BTreeMap.{is_at, get, IsLowerBound}
use Rattle.std.proofs.lemmas.Bool.{eqb-true, eqb-false, ne_eqb, leb-true, leb-false}
use Rattle.std.proofs.lemmas.List.{drop_more, take-append-le, length-append}
use Rattle.std.proofs.lemmas.List.Folds.{list_any-append, list_any_more}
use Rattle.std.proofs.lemmas.Map.Keys.{IsDistinct-push, le_from_not_gt}
use Rattle.std.proofs.lemmas.Map.Views.{any-filter_same}
use Rattle.std.proofs.lemmas.Option.{same_Some, slice_get-get_or}
use Rattle.indexmap.specs.IndexMap.{IndexMap, insert_entry, get as get-index}
use Rattle.indexmap.proofs.CallerLemmas.{insert_entry-new}
use Rattle.flow_aggregate.specs.declared.sums.Sums.{Sums}
use Rattle.flow_aggregate.specs.Sums.{no_sums}
use Rattle.flow_aggregate.specs.Groups.{Group}
use Rattle.flow_aggregate.specs.GroupOrder.{same_group, same_group-is, same_group-itself, same_group-whole}
use Rattle.flow_aggregate.specs.Running.{Entries, sums_at, is_due}
use Rattle.flow_aggregate.specs.Agenda.{Timed, time_of, listed_in, listed_at, AreListed, ListsTheSame, ListsOneMore, without, ListsWithout, FirstBy, NoneListedTo, TakesOut, TakesOutDue, ClosesDue, ListsNoneTo}
use Rattle.flow_aggregate.proofs.EntryLaws.{same_both, all_at}

-- ---- a map whose list of one time is written

pub is_time : (time q : ℕ) → is_at (nat_cmp time) q ≡ eqb time q
is_time time q = unsigned_tied time q

listed_put : (here : Bool) (w : Vec Group) (o : Option (Vec Group)) → listed_in (cond here (Some w) o) ≡ cond here w.items (listed_in o)
listed_put true w o = refl
listed_put false w o = refl

listed_out : (here : Bool) (o : Option (Vec Group)) → listed_in (cond here None o) ≡ cond here [] (listed_in o)
listed_out true o = refl
listed_out false o = refl

-- it has this list at the time
abbrev Puts : ℕ → Vec Group → BTreeMap ℕ (Vec Group) → BTreeMap ℕ (Vec Group) → Type 0
Puts time w m n = (q : ℕ) → get nat_cmp n q ≡ cond (is_at (nat_cmp time) q) (Some w) (get nat_cmp m q)

written : (time : ℕ) (w : Vec Group) (m n : BTreeMap ℕ (Vec Group)) → Puts time w m n → (q : ℕ) → listed_at n.entries q ≡ cond (eqb time q) w.items (listed_at m.entries q)
written time w m n puts q =
    ap listed_in (puts q) ∙ listed_put (is_at (nat_cmp time) q) w (get nat_cmp m q) ∙ ap (λ b. cond b w.items (listed_at m.entries q)) (is_time time q)

-- what is written at the time is f of what was there
written_by : (f : List Group → List Group) (time : ℕ) (w : Vec Group) (m n : BTreeMap ℕ (Vec Group)) → Puts time w m n → w.items ≡ f (listed_at m.entries time)
    → (q : ℕ) → listed_at n.entries q ≡ cond (eqb time q) (f (listed_at m.entries q)) (listed_at m.entries q)
written_by f time w m n puts is q = written time w m n puts q ∙ by (eqb time q) refl where
  by : (b : Bool) → eqb time q ≡ b → cond b w.items (listed_at m.entries q) ≡ cond b (f (listed_at m.entries q)) (listed_at m.entries q)
  by true e = is ∙ ap (λ t. f (listed_at m.entries t)) (eqb-true time q e)
  by false e = refl

pub lists_same : (time : ℕ) (w : Vec Group) (m n : BTreeMap ℕ (Vec Group)) → Puts time w m n → w.items ≡ listed_at m.entries time → ListsTheSame m.entries n.entries
lists_same time w m n puts is q = written_by (λ gs. gs) time w m n puts is q ∙ sym (same_both (eqb time q) (listed_at m.entries q))

pub lists_more : (time : ℕ) (g : Group) (w : Vec Group) (m n : BTreeMap ℕ (Vec Group)) → Puts time w m n → time ≡ time_of g → w.items ≡ listed_at m.entries time ++ g ∷ []
    → ListsOneMore g m.entries n.entries
lists_more time g w m n puts at is q =
    written_by (λ gs. gs ++ g ∷ []) time w m n puts is q ∙ ap (λ t. cond (eqb t q) (listed_at m.entries q ++ g ∷ []) (listed_at m.entries q)) at

pub lists_less : (time : ℕ) (g : Group) (w : Vec Group) (m n : BTreeMap ℕ (Vec Group)) → Puts time w m n → time ≡ time_of g → w.items ≡ without g (listed_at m.entries time)
    → ListsWithout g m.entries n.entries
lists_less time g w m n puts at is q =
    written_by (without g) time w m n puts is q ∙ ap (λ t. cond (eqb t q) (without g (listed_at m.entries q)) (listed_at m.entries q)) at

-- where nothing is listed for its time, nothing is taken out
pub lists_none : (time : ℕ) (g : Group) (m : BTreeMap ℕ (Vec Group)) → time ≡ time_of g → get nat_cmp m time ≡ None → ListsWithout g m.entries m.entries
lists_none time g m at none q = by (eqb time q) refl ∙ ap (λ t. cond (eqb t q) (without g (listed_at m.entries q)) (listed_at m.entries q)) at where
  by : (b : Bool) → eqb time q ≡ b → listed_at m.entries q ≡ cond b (without g (listed_at m.entries q)) (listed_at m.entries q)
  by true e =
      let nothing : listed_at m.entries q ≡ [] = ap (λ t. listed_at m.entries t) (sym (eqb-true time q e)) ∙ ap listed_in none in
      rw nothing refl
  by false e = refl

-- ---- a map whose list of one time is taken out

abbrev Drops : ℕ → BTreeMap ℕ (Vec Group) → BTreeMap ℕ (Vec Group) → Type 0
Drops time m n = (q : ℕ) → get nat_cmp n q ≡ cond (is_at (nat_cmp time) q) None (get nat_cmp m q)

dropped : (time : ℕ) (m n : BTreeMap ℕ (Vec Group)) → Drops time m n → (q : ℕ) → listed_at n.entries q ≡ cond (eqb time q) [] (listed_at m.entries q)
dropped time m n drops q =
    ap listed_in (drops q) ∙ listed_out (is_at (nat_cmp time) q) (get nat_cmp m q) ∙ ap (λ b. cond b [] (listed_at m.entries q)) (is_time time q)

pub drops_empty : (time : ℕ) (m n : BTreeMap ℕ (Vec Group)) → Drops time m n → listed_at m.entries time ≡ [] → ListsTheSame m.entries n.entries
drops_empty time m n drops empty q = dropped time m n drops q ∙ by (eqb time q) refl where
  by : (b : Bool) → eqb time q ≡ b → cond b [] (listed_at m.entries q) ≡ listed_at m.entries q
  by true e = sym (ap (λ t. listed_at m.entries t) (sym (eqb-true time q e)) ∙ empty)
  by false e = refl

pub takes_out : (t : ℕ) (m n : BTreeMap ℕ (Vec Group)) (p : ℕ × Vec Group) → FirstBy t m.entries → m.entries ≡ p ∷ n.entries → get nat_cmp m p.0 ≡ Some p.1 → Drops p.0 m n
    → TakesOutDue t p.1.items m.entries n.entries
takes_out t m n p first is there drops =
    let by : IfSome (slice_get (p ∷ n.entries) 0) (λ e. e.0 ≤ t) = subst (λ (es : Timed). IfSome (slice_get es 0) (λ e. e.0 ≤ t)) is first in
    (p.0, by, record { those = ap listed_in there; others = dropped p.0 m n drops })

-- ---- nothing is listed before the first time

pub none_before : (t time : ℕ) (m : BTreeMap ℕ (Vec Group)) → IsLowerBound nat_cmp m time → t < time → NoneListedTo t m.entries
none_before t time m least later q le = by (get nat_cmp m q) refl where
  by : (o : Option (Vec Group)) → get nat_cmp m q ≡ o → listed_in (get nat_cmp m q) ≡ []
  by None is = ap listed_in is
  by (Some w) is =
      let no_more : time ≤ q = le_from_not_gt time q (least q (ap is_some is)) in
      absurd (omega (arith, no_more, le, later))

pub none_at_all : (t : ℕ) (agenda : Timed) → agenda ≡ [] → NoneListedTo t agenda
none_at_all t agenda is q le = ap (λ (es : Timed). listed_at es q) is

-- ---- lists of groups

all_push : (P : Group → Type 0) (gs : List Group) (g : Group) → AllByRecursion P gs → P g → AllByRecursion P (gs ++ g ∷ [])
all_push P [] g all one = (one, tt)
all_push P (h ∷ gs) g all one = (all.0, all_push P gs g all.1 one)

all_some : (P : Group → Type 0) (p : Group → Bool) (gs : List Group) → AllByRecursion P gs → AllByRecursion P (filter p gs)
all_some P p [] all = tt
all_some P p (g ∷ gs) all = by (p g) (all_some P p gs all.1) where
  by : (b : Bool) → AllByRecursion P (filter p gs) → AllByRecursion P (cond b (g ∷ filter p gs) (filter p gs))
  by true rest = (all.0, rest)
  by false rest = rest

some_once : (p : Group → Bool) (gs : List Group) → IsDistinct same_group gs → IsDistinct same_group (filter p gs)
unfolding IsDistinct
some_once p [] once = tt
some_once p (g ∷ gs) once = by (p g) (some_once p gs once.1) where
  by : (b : Bool) → IsDistinct same_group (filter p gs) → IsDistinct same_group (cond b (g ∷ filter p gs) (filter p gs))
  by true rest = (all_some (λ y. same_group g y ≡ false) p gs once.0, rest)
  by false rest = rest

none_once : IsDistinct same_group []
unfolding IsDistinct
none_once = tt

-- a group that isn't there is not taken out
pub none_without : (g : Group) (gs : List Group) → list_any (same_group g) gs ≡ false → gs ≡ without g gs
none_without g [] none = refl
none_without g (h ∷ gs) none = by (same_group g h) none (none_without g gs) where
  by : (b : Bool) → (b || list_any (same_group g) gs) ≡ false → (list_any (same_group g) gs ≡ false → gs ≡ without g gs) → h ∷ gs ≡ cond (not b) (h ∷ without g gs) (without g gs)
  by true is rest = absurd cc
  by false is rest = ap (λ (hs : List Group). h ∷ hs) (rest is)

other_than : (g : Group) (gs : List Group) → AllByRecursion (λ y. same_group g y ≡ false) gs → list_any (same_group g) gs ≡ false
other_than g [] all = refl
other_than g (h ∷ gs) all = rw all.0 (other_than g gs all.1)

-- of distinct groups one is taken out
pub removed : (gs : List Group) (i : ℕ) (g : Group) → IsDistinct same_group gs → slice_get gs i ≡ Some g → remove gs i ≡ without g gs
unfolding IsDistinct
removed [] i g once at = absurd cc
removed (h ∷ gs) zero g once at =
    let one : h ≡ g = same_Some h g at in
    let others : list_any (same_group g) gs ≡ false = subst (λ (x : Group). list_any (same_group x) gs ≡ false) one (other_than h gs once.0) in
    let itself : same_group g h ≡ true = ap (same_group g) one ∙ same_group-itself g in
    none_without g gs others ∙ ap (λ b. cond (not b) (h ∷ without g gs) (without g gs)) (sym itself)
removed (h ∷ gs) (suc i) g once at =
    let other : same_group g h ≡ false = same_group-whole.symm g h ∙ all_at (λ y. same_group h y ≡ false) gs i g once.0 at in
    ap (λ (hs : List Group). h ∷ hs) (removed gs i g once.1 at) ∙ ap (λ b. cond (not b) (h ∷ without g gs) (without g gs)) (sym other)

-- the group was found from the end
pub found_back : (gs : List Group) (g x : Group) (behind place : ℕ) → behind < length gs → place ≡ length gs - 1 - behind → x ≡ get_or gs place x → same_group x g ≡ true
    → slice_get gs place ≡ Some g
found_back gs g x behind place within is at same =
    slice_get-get_or gs place x (omega (arith, is, within)) ∙ ap (λ (h : Group). Some h) (sym at ∙ same_group-is x g same)

-- it was not found so far
pub looked_at : (gs : List Group) (g x : Group) (behind place : ℕ) → behind < length gs → place ≡ length gs - 1 - behind → x ≡ get_or gs place x → same_group x g ≡ false
    → list_any (same_group g) (drop (length gs - behind) gs) ≡ false → list_any (same_group g) (drop (length gs - (behind + 1)) gs) ≡ false
looked_at gs g x behind place within is at other so_far =
    let here : length gs - (behind + 1) ≡ place = omega (arith, is, within) in
    let next : place + 1 ≡ length gs - behind = omega (arith, is, within) in
    let more : drop place gs ≡ get_or gs place x ∷ drop (place + 1) gs = drop_more gs place x (omega (arith, is, within)) in
    let not_this : same_group g (get_or gs place x) ≡ false = ap (same_group g) (sym at) ∙ same_group-whole.symm g x ∙ other in
    ap (λ n. list_any (same_group g) (drop n gs)) here ∙ ap (list_any (same_group g)) more
    ∙ ap (λ b. b || list_any (same_group g) (drop (place + 1) gs)) not_this ∙ ap (λ n. list_any (same_group g) (drop n gs)) next ∙ so_far

-- ---- groups of different times are others

pub other_time : (g h : Group) → eqb (time_of g) (time_of h) ≡ false → same_group g h ≡ false
other_time g h differ = by (same_group g h) refl where
  by : (b : Bool) → same_group g h ≡ b → same_group g h ≡ false
  by true is = absurd (eqb-false (time_of g) (time_of h) differ (ap time_of (same_group-is g h is)))
  by false is = is

pub not_at : (time : ℕ) (g : Group) (gs : List Group) → AllByRecursion (λ h. time_of h ≡ time) gs → eqb time (time_of g) ≡ false → list_any (same_group g) gs ≡ false
not_at time g [] all differ = refl
not_at time g (h ∷ gs) all differ =
    let apart : time_of g ≡ time_of h → ⊥ = λ same. eqb-false time (time_of g) differ (sym (same ∙ all.0)) in
    let other : same_group g h ≡ false = other_time g h (ne_eqb (time_of g) (time_of h) apart) in
    rw other (not_at time g gs all.1 differ)

-- ---- they stay in step

some_if : {A : Type 0} (b : Bool) (x : A) (o : Option A) → is_some (cond b (Some x) o) ≡ (is_some o || b)
some_if true x None = refl
some_if true x (Some y) = refl
some_if false x None = refl
some_if false x (Some y) = refl

some_unless : {A : Type 0} (b : Bool) (o : Option A) → is_some (cond b None o) ≡ (not b && is_some o)
some_unless true o = refl
some_unless false o = refl

or_false : (b c : Bool) → c ≡ false → b ≡ (b || (c || false))
or_false true c is = refl
or_false false c is = sym (ap (λ x. x || false) is)

or_end : (b c : Bool) → (b || (c || false)) ≡ (b || c)
or_end true c = refl
or_end false true = refl
or_end false false = refl

-- one more group is kept, without sums
pub listed_more : (es fs : Entries) (before after : Timed) (g : Group) → AreListed es before → ListsOneMore g before after → sums_at es g ≡ None → IsDistinct same_group (keys_of fs)
    → ((q : Group) → sums_at fs q ≡ cond (same_group g q) (Some no_sums) (sums_at es q)) → AreListed fs after
listed_more es fs before after g was more none keys puts = record {
  keys = keys;
  times = λ q. subst (λ (gs : List Group). AllByRecursion (λ h. time_of h ≡ q) gs) (sym (more q)) (times_by q (eqb (time_of g) q) refl);
  once = λ q. subst (λ (gs : List Group). IsDistinct same_group gs) (sym (more q)) (once_by q (eqb (time_of g) q) refl);
  those = λ h. ap (list_any (same_group h)) (more (time_of h)) ∙ those_by h (eqb (time_of g) (time_of h)) refl ∙ ap (λ b. is_some (sums_at es h) || b) (same_group-whole.symm h g)
      ∙ sym (ap is_some (puts h) ∙ some_if (same_group g h) no_sums (sums_at es h));
}
  where
    times_by : (q : ℕ) (b : Bool) → eqb (time_of g) q ≡ b → AllByRecursion (λ h. time_of h ≡ q) (cond b (listed_at before q ++ g ∷ []) (listed_at before q))
    times_by q true e = all_push (λ h. time_of h ≡ q) (listed_at before q) g (was.times q) (eqb-true (time_of g) q e)
    times_by q false e = was.times q

    once_by : (q : ℕ) (b : Bool) → eqb (time_of g) q ≡ b → IsDistinct same_group (cond b (listed_at before q ++ g ∷ []) (listed_at before q))
    once_by q true e =
        let new : list_any (same_group g) (listed_at before q) ≡ false =
        ap (λ t. list_any (same_group g) (listed_at before t)) (sym (eqb-true (time_of g) q e)) ∙ was.those g ∙ ap is_some none in
        IsDistinct-push same_group-whole (listed_at before q) g (was.once q) new
    once_by q false e = was.once q

    those_by : (h : Group) (b : Bool) → eqb (time_of g) (time_of h) ≡ b
        → list_any (same_group h) (cond b (listed_at before (time_of h) ++ g ∷ []) (listed_at before (time_of h))) ≡ (is_some (sums_at es h) || same_group h g)
    those_by h true e =
        list_any-append (same_group h) (listed_at before (time_of h)) (g ∷ []) ∙ ap (λ b. b || (same_group h g || false)) (was.those h)
        ∙ or_end (is_some (sums_at es h)) (same_group h g)
    those_by h false e =
        let other : same_group h g ≡ false = same_group-whole.symm h g ∙ other_time g h e in
        was.those h ∙ or_false (is_some (sums_at es h)) (same_group h g) other ∙ or_end (is_some (sums_at es h)) (same_group h g)

-- one group is dropped
pub listed_less : (es fs : Entries) (before after : Timed) (g : Group) → AreListed es before → ListsWithout g before after → IsDistinct same_group (keys_of fs)
    → ((q : Group) → sums_at fs q ≡ cond (same_group g q) None (sums_at es q)) → AreListed fs after
listed_less es fs before after g was less keys puts = record {
  keys = keys;
  times = λ q. subst (λ (gs : List Group). AllByRecursion (λ h. time_of h ≡ q) gs) (sym (less q)) (times_by q (eqb (time_of g) q));
  once = λ q. subst (λ (gs : List Group). IsDistinct same_group gs) (sym (less q)) (once_by q (eqb (time_of g) q));
  those = λ h. ap (list_any (same_group h)) (less (time_of h)) ∙ those_by h (eqb (time_of g) (time_of h)) refl
      ∙ sym (ap is_some (puts h) ∙ some_unless (same_group g h) (sums_at es h));
}
  where
    times_by : (q : ℕ) (b : Bool) → AllByRecursion (λ h. time_of h ≡ q) (cond b (without g (listed_at before q)) (listed_at before q))
    times_by q true = all_some (λ h. time_of h ≡ q) (λ h. not (same_group g h)) (listed_at before q) (was.times q)
    times_by q false = was.times q

    once_by : (q : ℕ) (b : Bool) → IsDistinct same_group (cond b (without g (listed_at before q)) (listed_at before q))
    once_by q true = some_once (λ h. not (same_group g h)) (listed_at before q) (was.once q)
    once_by q false = was.once q

    those_by : (h : Group) (b : Bool) → eqb (time_of g) (time_of h) ≡ b
        → list_any (same_group h) (cond b (without g (listed_at before (time_of h))) (listed_at before (time_of h))) ≡ (not (same_group g h) && is_some (sums_at es h))
    those_by h true e =
        any-filter_same (same_group h) (λ k. not (same_group g k)) (not (same_group g h)) (λ k is. ap (λ (x : Group). not (same_group g x)) (sym (same_group-is h k is)))
        (listed_at before (time_of h))
        ∙ ap (λ b. not (same_group g h) && b) (was.those h)
    those_by h false e = was.those h ∙ ap (λ b. not b && is_some (sums_at es h)) (sym (other_time g h e))

-- all groups of a time are dropped
pub listed_gone : (es fs : Entries) (before after : Timed) (time : ℕ) (groups : List Group) → AreListed es before → TakesOut time groups before after → IsDistinct same_group (keys_of fs)
    → ((q : Group) → sums_at fs q ≡ cond (list_any (same_group q) groups) None (sums_at es q)) → AreListed fs after
listed_gone es fs before after time groups was takes keys puts = record {
  keys = keys;
  times = λ q. subst (λ (gs : List Group). AllByRecursion (λ h. time_of h ≡ q) gs) (sym (takes.others q)) (times_by q (eqb time q));
  once = λ q. subst (λ (gs : List Group). IsDistinct same_group gs) (sym (takes.others q)) (once_by q (eqb time q));
  those = λ h. ap (list_any (same_group h)) (takes.others (time_of h)) ∙ those_by h (eqb time (time_of h)) refl
      ∙ sym (ap is_some (puts h) ∙ some_unless (list_any (same_group h) groups) (sums_at es h));
}
  where
    times_by : (q : ℕ) (b : Bool) → AllByRecursion (λ h. time_of h ≡ q) (cond b [] (listed_at before q))
    times_by q true = tt
    times_by q false = was.times q

    once_by : (q : ℕ) (b : Bool) → IsDistinct same_group (cond b [] (listed_at before q))
    once_by q true = none_once
    once_by q false = was.once q

    neither : (b : Bool) → false ≡ (not b && b)
    neither true = refl
    neither false = refl

    those_by : (h : Group) (b : Bool) → eqb time (time_of h) ≡ b
        → list_any (same_group h) (cond b [] (listed_at before (time_of h))) ≡ (not (list_any (same_group h) groups) && is_some (sums_at es h))
    those_by h true e =
        let there : list_any (same_group h) groups ≡ is_some (sums_at es h) =
        ap (list_any (same_group h)) (sym takes.those ∙ ap (λ t. listed_at before t) (eqb-true time (time_of h) e)) ∙ was.those h in
        neither (is_some (sums_at es h)) ∙ ap (λ b. not b && is_some (sums_at es h)) (sym there)
    those_by h false e =
        let all : AllByRecursion (λ k. time_of k ≡ time) groups = subst (λ (gs : List Group). AllByRecursion (λ k. time_of k ≡ time) gs) takes.those (was.times time) in
        was.those h ∙ ap (λ b. not b && is_some (sums_at es h)) (sym (not_at time h groups all e))

-- ---- what is due is dropped

-- up to t nothing is listed, so nothing is kept that is due
pub none_left : (t : ℕ) (es : Entries) (agenda : Timed) → AreListed es agenda → NoneListedTo t agenda → (g : Group) → is_due t g ≡ true → sums_at es g ≡ None
none_left t es agenda listed none g due = by (sums_at es g) refl where
  by : (o : Option Sums) → sums_at es g ≡ o → o ≡ None
  by None is = refl
  by (Some s) is =
      let there : list_any (same_group g) (listed_at agenda (time_of g)) ≡ true = listed.those g ∙ ap is_some is in
      let gone : list_any (same_group g) (listed_at agenda (time_of g)) ≡ false = ap (list_any (same_group g)) (none (time_of g) (leb-true (time_of g) t due)) in
      absurd (let e : true ≡ false = sym there ∙ gone in cc)

pub closes_by : (t : ℕ) (es fs : Entries) (agenda : Timed) → AreListed fs agenda → NoneListedTo t agenda → ((g : Group) → is_due t g ≡ false → sums_at fs g ≡ sums_at es g)
    → ClosesDue t es fs agenda
closes_by t es fs agenda listed none stay = record { listed = listed; sums = λ g. by g (is_due t g) refl } where
  by : (g : Group) (b : Bool) → is_due t g ≡ b → sums_at fs g ≡ cond b None (sums_at es g)
  by g true due = none_left t fs agenda listed none g due
  by g false due = stay g due

-- what is dropped with the groups of a time up to t is due
pub not_among : (t time : ℕ) (groups : List Group) (g : Group) → time ≤ t → AllByRecursion (λ h. time_of h ≡ time) groups → is_due t g ≡ false → list_any (same_group g) groups ≡ false
not_among t time groups g le all due =
    let later : t < time_of g = leb-false (time_of g) t due in
    not_at time g groups all (ne_eqb time (time_of g) (λ same. omega (arith, le, later, same)))

pub closes_all : (t : ℕ) (es fs : Entries) (before after : Timed) → AreListed es before → ListsNoneTo t before after → IsDistinct same_group (keys_of fs)
    → ((g : Group) → sums_at fs g ≡ cond (is_due t g) None (sums_at es g)) → ClosesDue t es fs after
closes_all t es fs before after was lists keys sums = record {
  listed = record {
    keys = keys;
    times = λ q. times_by q (leb q t) refl;
    once = λ q. once_by q (leb q t) refl;
    those = λ h. those_by h (is_due t h) refl ∙ sym (ap is_some (sums h));
  };
  sums = sums;
}
  where
    times_by : (q : ℕ) (b : Bool) → leb q t ≡ b → AllByRecursion (λ h. time_of h ≡ q) (listed_at after q)
    times_by q true e = subst (λ (gs : List Group). AllByRecursion (λ h. time_of h ≡ q) gs) (sym (lists.gone q (leb-true q t e))) tt
    times_by q false e =
        let later : t < q = leb-false q t e in
        subst (λ (gs : List Group). AllByRecursion (λ h. time_of h ≡ q) gs) (sym (lists.stay q (omega (arith, later)))) (was.times q)

    once_by : (q : ℕ) (b : Bool) → leb q t ≡ b → IsDistinct same_group (listed_at after q)
    once_by q true e = subst (λ (gs : List Group). IsDistinct same_group gs) (sym (lists.gone q (leb-true q t e))) none_once
    once_by q false e =
        let later : t < q = leb-false q t e in
        subst (λ (gs : List Group). IsDistinct same_group gs) (sym (lists.stay q (omega (arith, later)))) (was.once q)

    those_by : (h : Group) (b : Bool) → is_due t h ≡ b → list_any (same_group h) (listed_at after (time_of h)) ≡ is_some (cond b None (sums_at es h))
    those_by h true e = ap (list_any (same_group h)) (lists.gone (time_of h) (leb-true (time_of h) t e))
    those_by h false e =
        let later : t < time_of h = leb-false (time_of h) t e in
        ap (list_any (same_group h)) (lists.stay (time_of h) (omega (arith, later))) ∙ was.those h

-- ---- the steps of calls

-- a group was put behind the others
pub put_behind : {S : Type 0} (m : IndexMap Group Sums S) (es fs : Entries) (kept g : Group) (s : Sums) → m.entries ≡ es → kept ≡ g → s ≡ no_sums → sums_at es g ≡ None
    → fs ≡ insert_entry same_group m.entries kept s → fs ≡ es ++ (g, no_sums) ∷ []
put_behind m es fs kept g s unchanged is none wanting put =
    let new : get-index same_group m kept ≡ None = ap (λ (ds : Entries). sums_at ds kept) unchanged ∙ ap (λ (h : Group). sums_at es h) is ∙ wanting in
    put ∙ insert_entry-new same_group m kept s new ∙ ap (λ (ds : Entries). ds ++ (kept, s) ∷ []) unchanged ∙ ap (λ (h : Group). es ++ (h, s) ∷ []) is
    ∙ ap (λ (t : Sums). es ++ (g, t) ∷ []) none

pub put_listed : (es ms fs : Entries) (before after : Timed) (kept listed g : Group) (s : Sums) → AreListed es before → ms ≡ es → kept ≡ g → listed ≡ g → s ≡ no_sums → sums_at es g ≡ None
    → ListsOneMore listed before after → IsDistinct same_group (keys_of fs) → ((q : Group) → sums_at fs q ≡ cond (same_group kept q) (Some s) (sums_at ms q)) → AreListed fs after
put_listed es ms fs before after kept listed g s was unchanged is-kept is-listed none wanting more keys puts =
    listed_more es fs before after g was (subst (λ (h : Group). ListsOneMore h before after) is-listed more) wanting keys
    (λ q. puts q ∙ ap (λ (ds : Entries). cond (same_group kept q) (Some s) (sums_at ds q)) unchanged ∙ ap (λ (h : Group). cond (same_group h q) (Some s) (sums_at es q)) is-kept
    ∙ ap (λ (t : Sums). cond (same_group g q) (Some t) (sums_at es q)) none)

-- the last group was taken out, behind those that are to stay
pub one_popped : (count long : ℕ) (es fs whole : Entries) (e : Group × Sums) → es ≡ fs ++ e ∷ [] → count < long → long ≡ length es → take count es ≡ take count whole → take count fs ≡ take count whole
one_popped count long es fs whole e is less same front =
    let more : length es ≡ length fs + 1 = ap length is ∙ length-append fs (e ∷ []) in
    sym (take-append-le count fs (e ∷ []) (omega (arith, less, same, more))) ∙ ap (λ (ds : Entries). take count ds) (sym is) ∙ front

both_out : (a b : Bool) (o : Option Sums) → cond a None (cond b None o) ≡ cond (b || a) None o
both_out true true o = refl
both_out true false o = refl
both_out false true o = refl
both_out false false o = refl

-- one more of these groups was dropped
pub one_dropped : (es fs whole : Entries) (gone : List Group) (i : ℕ) (x d : Group) → i < length gone → x ≡ get_or gone i d
    → ((q : Group) → sums_at fs q ≡ cond (same_group x q) None (sums_at es q)) → ((g : Group) → sums_at es g ≡ cond (list_any (same_group g) (take i gone)) None (sums_at whole g))
    → (g : Group) → sums_at fs g ≡ cond (list_any (same_group g) (take (i + 1) gone)) None (sums_at whole g)
one_dropped es fs whole gone i x d within is drops so_far g =
    let this : same_group g (get_or gone i d) ≡ same_group x g = ap (same_group g) (sym is) ∙ same_group-whole.symm g x in
    drops g ∙ ap (λ (o : Option Sums). cond (same_group x g) None o) (so_far g) ∙ both_out (same_group x g) (list_any (same_group g) (take i gone)) (sums_at whole g)
    ∙ ap (λ b. cond (list_any (same_group g) (take i gone) || b) None (sums_at whole g)) (sym this)
    ∙ ap (λ b. cond b None (sums_at whole g)) (sym (list_any_more (same_group g) gone i d within))

-- so were the groups of one more time
pub time_dropped : (t : ℕ) (es fs whole : Entries) (before after : Timed) (groups gone : List Group) → AreListed es before → TakesOutDue t groups before after → gone ≡ groups
    → IsDistinct same_group (keys_of fs) → ((g : Group) → sums_at fs g ≡ cond (list_any (same_group g) gone) None (sums_at es g))
    → ((g : Group) → is_due t g ≡ false → sums_at es g ≡ sums_at whole g) → AreListed fs after × ((g : Group) → is_due t g ≡ false → sums_at fs g ≡ sums_at whole g)
time_dropped t es fs whole before after groups gone was takes is keys drops stay =
    let drops_these : (g : Group) → sums_at fs g ≡ cond (list_any (same_group g) groups) None (sums_at es g) =
    λ g. drops g ∙ ap (λ (gs : List Group). cond (list_any (same_group g) gs) None (sums_at es g)) is in
    let all : AllByRecursion (λ h. time_of h ≡ takes.0) groups =
    subst (λ (gs : List Group). AllByRecursion (λ h. time_of h ≡ takes.0) gs) takes.2.those (was.times takes.0) in (
      listed_gone es fs before after takes.0 groups was takes.2 keys drops_these,
      λ g later. drops_these g ∙ ap (λ b. cond b None (sums_at es g)) (not_among t takes.0 groups g takes.1 all later) ∙ stay g later,
    )
