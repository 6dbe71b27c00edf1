-- The groups that are due are those that an advance closes.
use Rattle.std.proofs.Common.{◌≡◌, ℕ, ◌+◌, ◌<◌, ◌≤◌, length, take, get_or, slice_get, Bool, true, false, cond, List, [], ◌∷◌, ◌++◌, Option, Some, None, refl, sym, ap, ◌∙◌, arith, append_assoc, append-nil, IsPermutation, Bor}
use Rattle.std.specs.List.{IsDistinct, AllByRecursion}
use Rattle.std.proofs.lemmas.List.{take_more, take-take}
use Rattle.std.proofs.lemmas.Option.{get_or_from_slice_get}
use Rattle.std.specs.List.Sorted.{IsSortedBy, IsSortedByKey}
use Rattle.std.specs.Cmp.{IsStrictWeakOrder}
use Rattle.std.specs.Fn.{Mut, Called, ComparesAs}
use Rattle.std.specs.declared.cmp.Ordering.{Ordering}
use Rattle.std.specs.Ordering.{is_lt}
use Rattle.std.proofs.lemmas.Fn.{always_returns_same}
use Rattle.std.specs.Map.{lookup, keys_of, IsKeyTest}
use Rattle.std.proofs.lemmas.List.Sorted.{IsPermutation-map, ranks_by}
use Rattle.std.proofs.lemmas.Map.Keys.{IsDistinct-IsPermutation}
use Rattle.indexmap.proofs.MapLemmas.{lookup_permutation}
use Rattle.flow_aggregate.specs.declared.sums.Sums.{Sums}
use Rattle.flow_aggregate.specs.declared.closed.ClosedAggregate.{ClosedAggregate}
use Rattle.flow_aggregate.specs.Groups.{Group, Sample}
use Rattle.flow_aggregate.specs.GroupOrder.{same_group, group_cmp, group_total, same_group-is, same_group-whole}
use Rattle.flow_aggregate.specs.Running.{Entries, HeldGroups, held_of, sums_at, SumsStand, is_due, pair_of, pairs_of, sums_in, AreClosed, closed_one, due_one, due_of, AreDue}
use Rattle.flow_aggregate.proofs.EntryLaws.{same_both}

pub due_more : (t : ℕ) (es : Entries) (e : Group × Sums) → due_of t (es ++ e ∷ []) ≡ due_of t es ++ due_one t e.0 e.1
due_more t [] e = append-nil (due_one t e.0 e.1)
due_more t (d ∷ es) e = ap (λ rest. due_one t d.0 d.1 ++ rest) (due_more t es e) ∙ sym (append_assoc (due_one t d.0 d.1) (due_of t es) (due_one t e.0 e.1))

-- one more of the first so many groups
pub due_step : (t n : ℕ) (es : Entries) (held : HeldGroups) (i : ℕ) (g : Group) (s : Sums) (done after : List ClosedAggregate) → held_of n es ≡ held → i < n → n ≤ length es
    → Some (g, s) ≡ slice_get es i → done ≡ due_of t (take i held.groups) → after ≡ done ++ due_one t g s → after ≡ due_of t (take (i + 1) held.groups)
due_step t n es held i g s done after same within short there so_far is =
    let e : Group × Sums = (g, s) in
    let here : get_or es i e ≡ e = get_or_from_slice_get es i e e (sym there) in
    let more : take (i + 1) es ≡ take i es ++ e ∷ [] = take_more es i e (omega (arith, within, short)) ∙ ap (λ (d : Group × Sums). take i es ++ d ∷ []) here in
    let front : take i held.groups ≡ take i es = ap (λ (h : HeldGroups). take i h.groups) (sym same) ∙ take-take i n es (omega (arith, within)) in
    let front_more : take (i + 1) held.groups ≡ take (i + 1) es = ap (λ (h : HeldGroups). take (i + 1) h.groups) (sym same) ∙ take-take (i + 1) n es (omega (arith, within)) in
    is ∙ ap (λ (ds : List ClosedAggregate). ds ++ due_one t g s) (so_far ∙ ap (λ (ds : Entries). due_of t ds) front) ∙ sym (due_more t (take i es) e)
    ∙ ap (λ (ds : Entries). due_of t ds) (sym more ∙ sym front_more)

-- ---- each once

all_due : (P : Group → Type 0) (t : ℕ) (es : Entries) → AllByRecursion P (keys_of es) → AllByRecursion P (keys_of (pairs_of (due_of t es)))
all_due P t [] all = tt
all_due P t (e ∷ es) all =
    elim (is_due t e.0) as (λ b. AllByRecursion P (keys_of (pairs_of (cond b (closed_one e.0 e.1 ∷ []) [] ++ due_of t es))))
    [ true ↦ (all.0, all_due P t es all.1) | false ↦ all_due P t es all.1 ]

due_once : (t : ℕ) (es : Entries) → IsDistinct same_group (keys_of es) → IsDistinct same_group (keys_of (pairs_of (due_of t es)))
unfolding IsDistinct
due_once t [] distinct = tt
due_once t (e ∷ es) distinct =
    elim (is_due t e.0) as (λ b. IsDistinct same_group (keys_of (pairs_of (cond b (closed_one e.0 e.1 ∷ []) [] ++ due_of t es))))
    [ true ↦ (all_due (λ y. same_group e.0 y ≡ false) t es distinct.0, due_once t es distinct.1) | false ↦ due_once t es distinct.1 ]

-- ---- their sums

due_look : (t : ℕ) (es : Entries) (g : Group) → IsDistinct same_group (keys_of es) → sums_in (due_of t es) g ≡ cond (is_due t g) (sums_at es g) None
unfolding IsDistinct
due_look t [] g distinct = same_both (is_due t g) None
due_look t (e ∷ es) g distinct = by (is_due t e.0) (same_group g e.0) refl refl (due_look t es g distinct.1) where
  by : (due same : Bool) → is_due t e.0 ≡ due → same_group g e.0 ≡ same → sums_in (due_of t es) g ≡ cond (is_due t g) (lookup (same_group g) es) None
      → sums_in (cond due (closed_one e.0 e.1 ∷ []) [] ++ due_of t es) g ≡ cond (is_due t g) (cond same (Some e.1) (lookup (same_group g) es)) None
  by true true is-due is-same rest =
      let one = same_group-is g e.0 is-same in
      let due : is_due t g ≡ true = rw one is-due in
      rw (is-same, due) refl
  by true false is-due is-same rest = rw is-same rest
  by false true is-due is-same rest =
      let one = same_group-is g e.0 is-same in
      let due : is_due t g ≡ false = rw one is-due in
      let nothing : sums_in (due_of t es) g ≡ None = rw due at rest in
      rw due nothing
  by false false is-due is-same rest = rest

-- ---- in their order

key_test : (g : Group) → IsKeyTest same_group (same_group g)
key_test g x y same = ap (λ h. same_group h y) (same_group-is g x same)

-- what is found among all groups is due
pub are_due : (t : ℕ) (es : Entries) (due : List ClosedAggregate) → IsDistinct same_group (keys_of es) → due ≡ due_of t es → AreDue t es due
are_due t es due distinct is = record { once = rw is (due_once t es distinct); sums = λ g. ap (λ ds. sums_in ds g) is ∙ due_look t es g distinct }

pub are_closed : (t : ℕ) (es : Entries) (due closed : List ClosedAggregate) (cs : List Sample) → AreDue t es due
    → IsPermutation due closed → IsSortedByKey (λ c. c.group) group_cmp closed → SumsStand es cs → AreClosed t cs closed
are_closed t es due closed cs are moves ascend stands =
    let pairs = IsPermutation-map pair_of due closed moves in
    let keys = IsPermutation-map (λ (p : Group × Sums). p.0) (pairs_of due) (pairs_of closed) pairs in
    let once = IsDistinct-IsPermutation same_group same_group-whole.symm (keys_of (pairs_of due)) (keys_of (pairs_of closed)) keys are.once in
    record {
      ascend = ascend;
      once = once;
      sums = λ g.
          lookup_permutation same_group-whole (pairs_of due) (pairs_of closed) pairs once (same_group g) (key_test g)
          ∙ are.sums g ∙ ap (λ (s : Option Sums). cond (is_due t g) s None) (stands g);
    }

-- what was sorted by a closure that compares the groups
pub ascends : {F : Type 0} {g : Mut F (Bor ClosedAggregate × (Bor ClosedAggregate × Unit {0})) Ordering} {f : F} (xs : List ClosedAggregate)
    → ((lt : ClosedAggregate → ClosedAggregate → Bool) → IsStrictWeakOrder lt → ComparesAs g lt f → IsSortedBy lt xs)
    → ((a : Bor ClosedAggregate × (Bor ClosedAggregate × Unit {0})) (r : Ordering) (f' : F) → Called g f a r f' → (r ≡ group_cmp a.0.now.group a.1.0.now.group) × (f' ≡ f))
    → IsSortedByKey (λ c. c.group) group_cmp xs
ascends {g = g} {f = f} xs up h =
    up (λ x y. is_lt (group_cmp x.group y.group)) (ranks_by group_total (λ (c : ClosedAggregate). c.group))
    (always_returns_same g (λ a r. is_lt r ≡ is_lt (group_cmp a.0.now.group a.1.0.now.group)) f (λ a r f' k. (ap is_lt (h a r f' k).0, (h a r f' k).1)))
