-- Look-ups by group in entries of distinct groups.
use Rattle.std.proofs.Common.{◌≡◌, ℕ, zero, suc, Bool, true, false, cond, not, List, [], ◌∷◌, filter, slice_get, Some, None, refl, ap, ◌∙◌}
use Rattle.std.specs.Prelude.{unwrap_or}
use Rattle.std.specs.List.{AllByRecursion, IsDistinct}
use Rattle.std.specs.Map.{lookup, keys_of, values_of}
use Rattle.indexmap.specs.IndexMap.{set_value_at}
use Rattle.flow_aggregate.specs.declared.sums.Sums.{Sums}
use Rattle.flow_aggregate.specs.Sums.{no_sums}
use Rattle.flow_aggregate.specs.Groups.{Group}
use Rattle.flow_aggregate.specs.GroupOrder.{same_group, same_group-is, same_group-itself, same_group-whole}
use Rattle.flow_aggregate.specs.Running.{Entries, is_due}

-- ---- look-ups

pub absent : (k : Group) (es : Entries) → AllByRecursion (λ y. same_group k y ≡ false) (keys_of es) → lookup (same_group k) es ≡ None
absent k [] all = refl
absent k (e ∷ es) all = rw all.0 (absent k es all.1)

-- both sides of a test are the same
pub same_both : {A : Type 0} (b : Bool) (x : A) → x ≡ cond b x x
same_both true x = refl
same_both false x = refl

-- ---- what stands at a place

one_of : (x y : Group) → Some x ≡ Some y → x ≡ y
one_of x y is = cc

pub all_at : (P : Group → Type 0) (gs : List Group) (i : ℕ) (g : Group) → AllByRecursion P gs → slice_get gs i ≡ Some g → P g
all_at P [] i g all at = absurd cc
all_at P (h ∷ gs) zero g all at = let one = one_of h g at in rw (← one) all.0
all_at P (h ∷ gs) (suc i) g all at = all_at P gs i g all.1 at

-- what is written at a group's place is found there, and nothing else changes
pub look_written : (es : Entries) (i : ℕ) (k g : Group) (w : Sums) → IsDistinct same_group (keys_of es) → slice_get (keys_of es) i ≡ Some k
    → lookup (same_group g) (set_value_at es i w) ≡ cond (same_group g k) (Some w) (lookup (same_group g) es)
unfolding IsDistinct
look_written [] i k g w distinct at = absurd cc
look_written (e ∷ es) zero k g w distinct at = let one = one_of e.0 k at in rw (← one) (by (same_group g e.0)) where
  by : (b : Bool) → cond b (Some w) (lookup (same_group g) es) ≡ cond b (Some w) (cond b (Some e.1) (lookup (same_group g) es))
  by true = refl
  by false = refl
look_written (e ∷ es) (suc i) k g w distinct at = by (same_group g e.0) refl (look_written es i k g w distinct.1 at) where
  by : (b : Bool) → same_group g e.0 ≡ b → lookup (same_group g) (set_value_at es i w) ≡ cond (same_group g k) (Some w) (lookup (same_group g) es)
      → cond b (Some e.1) (lookup (same_group g) (set_value_at es i w)) ≡ cond (same_group g k) (Some w) (cond b (Some e.1) (lookup (same_group g) es))
  by true is rest =
      let other : same_group g k ≡ false = ap (λ h. same_group h k) (same_group-is g e.0 is) ∙ all_at (λ y. same_group e.0 y ≡ false) (keys_of es) i k distinct.0 at in
      rw other refl
  by false is rest = rest

-- so is what stands there
pub look_there : (es : Entries) (i : ℕ) (k : Group) → IsDistinct same_group (keys_of es) → slice_get (keys_of es) i ≡ Some k
    → unwrap_or (slice_get (values_of es) i) no_sums ≡ unwrap_or (lookup (same_group k) es) no_sums
unfolding IsDistinct
look_there [] i k distinct at = absurd cc
look_there (e ∷ es) zero k distinct at =
    let one = one_of e.0 k at in
    let itself = same_group-itself e.0 in
    rw (← one, itself) refl
look_there (e ∷ es) (suc i) k distinct at =
    let other : same_group k e.0 ≡ false = same_group-whole.symm k e.0 ∙ all_at (λ y. same_group e.0 y ≡ false) (keys_of es) i k distinct.0 at in
    rw other (look_there es i k distinct.1 at)

pub keys_written : (es : Entries) (i : ℕ) (w : Sums) → keys_of (set_value_at es i w) ≡ keys_of es
keys_written [] i w = refl
keys_written (e ∷ es) zero w = refl
keys_written (e ∷ es) (suc i) w = ap (λ (gs : List Group). e.0 ∷ gs) (keys_written es i w)

-- past the last place nothing is written
pub none_written : (es : Entries) (i : ℕ) (w : Sums) → None ≡ slice_get (values_of es) i → set_value_at es i w ≡ es
none_written [] i w none = refl
none_written (e ∷ es) zero w none = absurd cc
none_written (e ∷ es) (suc i) w none = ap (λ (ds : Entries). e ∷ ds) (none_written es i w none)

-- ---- the groups that stay

pub look_kept : (t : ℕ) (es : Entries) (g : Group)
    → lookup (same_group g) (filter (λ e. not (is_due t e.0)) es) ≡ cond (is_due t g) None (lookup (same_group g) es)
look_kept t [] g = same_both (is_due t g) None
look_kept t (e ∷ es) g = by (is_due t e.0) (same_group g e.0) refl refl (look_kept t es g) where
  rest : Entries
  rest = filter (λ e. not (is_due t e.0)) es

  by : (due same : Bool) → is_due t e.0 ≡ due → same_group g e.0 ≡ same → lookup (same_group g) rest ≡ cond (is_due t g) None (lookup (same_group g) es)
      → lookup (same_group g) (cond (not due) (e ∷ rest) rest) ≡ cond (is_due t g) None (cond same (Some e.1) (lookup (same_group g) es))
  by true true is-due is-same after =
      let one = same_group-is g e.0 is-same in
      let due : is_due t g ≡ true = rw one is-due in
      let gone : lookup (same_group g) rest ≡ None = rw due at after in
      rw due gone
  by true false is-due is-same after = after
  by false true is-due is-same after =
      let one = same_group-is g e.0 is-same in
      let due : is_due t g ≡ false = rw one is-due in
      rw (is-same, due) refl
  by false false is-due is-same after = rw is-same after
