-- Numbers that ascend, and that cuts do.
use Rattle.std.proofs.Common.{ℕ, ◌≤◌, ◌<◌, Bool, true, false, cond, List, [], ◌∷◌, ◌++◌, refl, arith}
use Rattle.std.specs.Prelude.{filter}
use Rattle.std.specs.List.{flat_map, AllByRecursion}
use Rattle.sequences.proofs.ListLaws.{AllByRecursion-append}
use Rattle.mediator_history.specs.Subscriptions.{is_served, subscribed_in, served}
use Rattle.mediator_history.specs.Cuts.{is_cut_by}
use Rattle.mediator_history.proofs.ListFilters.{all_of_filter}
use Rattle.mediator_state.specs.Ascending.{Ascend}
use Rattle.mediator_state.specs.CutOrder.{CutsBeforeAscend}

pub ascend_filter : (p : ℕ → Bool) (xs : List ℕ) → Ascend xs → Ascend (filter p xs)
ascend_filter p [] up = tt
ascend_filter p (x ∷ xs) up = by_test (p x) (ascend_filter p xs up.1) where
  by_test : (b : Bool) → Ascend (filter p xs) → Ascend (cond b (x ∷ filter p xs) (filter p xs))
  by_test true others = (all_of_filter (λ y. x < y) p xs up.0, others)
  by_test false others = others

pub ascend_push : (xs : List ℕ) (x : ℕ) → Ascend xs → AllByRecursion (λ y. y < x) xs → Ascend (xs ++ x ∷ [])
ascend_push [] x up low = (tt, tt)
ascend_push (y ∷ ys) x up low = (AllByRecursion-append (λ z. y < z) ys (x ∷ []) up.0 (low.0, tt), ascend_push ys x up.1 low.1)

pub all_below : (n m : ℕ) (xs : List ℕ) → n < m → AllByRecursion (λ x. x ≤ n) xs → AllByRecursion (λ x. x < m) xs
all_below n m [] low all = tt
all_below n m (x ∷ xs) low all = (omega (arith, all.0), all_below n m xs low all.1)

pub cuts_ascend : CutsBeforeAscend
cuts_ascend limits h entry waiting so = record {
  subs = filter (is_cut_by limits h entry waiting) (served h);
  are = refl;
  ascend = ascend_filter (is_cut_by limits h entry waiting) (served h) (ascend_filter (λ sub. is_served sub h) (flat_map subscribed_in h) so.ascending);
}
