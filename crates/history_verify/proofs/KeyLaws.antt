-- Sets of numbers.
use Rattle.std.proofs.Common.{◌≡◌, ℕ, ◌+◌, ◌<◌, ◌≤◌, Bool, true, false, cond, List, [], ◌∷◌, ◌++◌, length, refl, sym, ap, ◌∙◌, subst, arith}
use Rattle.std.specs.Prelude.{◌≢◌, ◌==◌, ◌||◌, not, filter}
use Rattle.std.specs.declared.cmp.Ordering.{Ordering}
use Rattle.std.specs.declared.cmp.Ordering.TheVariants.{Less, Equal, Greater}
use Rattle.std.specs.Ordering.{nat_cmp, is_eq, match_ordering}
use Rattle.std.specs.List.{list_any, AllByRecursion}
use Rattle.std.specs.BTreeMap.{is_at}
use Rattle.std.proofs.lemmas.Bool.{eqb-true, eq-eqb, ne_eqb}
use Rattle.std.proofs.lemmas.Map.Lookups.{exact_unsigned}
use Rattle.std.specs.Cmp.{nat_cmp_is}
use Rattle.std.specs.Set.{remove_key}
use Rattle.std.specs.BTreeSet.{insert_key}
use Rattle.mediator_history.specs.Numbers.{is_in, AreDistinct}
use Rattle.mediator_history.proofs.ListFilters.{filter_all}
use Rattle.history_verify.specs.Parts.{AreNumbersFrom}

equal_where : (o : Ordering) → is_eq o ≡ true → o ≡ Equal
equal_where Less is = absurd cc
equal_where Equal is = refl
equal_where Greater is = absurd cc

pub at_same : (a b : ℕ) → is_at (nat_cmp a) b ≡ true → a ≡ b
at_same a b is = exact_unsigned a b (equal_where (nat_cmp a b) is)

pub same_at : (a : ℕ) → is_at (nat_cmp a) a ≡ true
same_at a = ap is_eq (sym (nat_cmp_is a a Equal refl))

pub at_is : (a b : ℕ) → is_at (nat_cmp a) b ≡ (b == a)
at_is a b = by (is_at (nat_cmp a) b) refl where
  by : (here : Bool) → is_at (nat_cmp a) b ≡ here → here ≡ (b == a)
  by true is = sym (eq-eqb b a (sym (at_same a b is)))
  by false is = sym (ne_eqb b a (λ same. differ same is)) where
    differ : b ≡ a → is_at (nat_cmp a) b ≡ false → ⊥
    differ same off = let on : is_at (nat_cmp a) b ≡ true = ap (is_at (nat_cmp a)) same ∙ same_at a in absurd cc

pub any_is_in : (a : ℕ) (xs : List ℕ) → list_any (is_at (nat_cmp a)) xs ≡ is_in a xs
any_is_in a [] = refl
any_is_in a (x ∷ xs) = ap (λ (b : Bool). b || list_any (is_at (nat_cmp a)) xs) (at_is a x) ∙ ap (λ (b : Bool). (x == a) || b) (any_is_in a xs)

others_stay : (a : ℕ) (xs : List ℕ) → AllByRecursion (λ y. y ≢ a) xs → AllByRecursion (λ y. not (y == a) ≡ true) xs
others_stay a [] all = tt
others_stay a (x ∷ xs) all = (ap not (ne_eqb x a all.0), others_stay a xs all.1)

pub removed_is : (a : ℕ) (xs : List ℕ) → AreDistinct xs → remove_key (is_at (nat_cmp a)) xs ≡ filter (λ q. not (q == a)) xs
removed_is a [] apart = refl
removed_is a (x ∷ xs) apart = ap (λ (b : Bool). cond b xs (x ∷ remove_key (is_at (nat_cmp a)) xs)) (at_is a x) ∙ by (x == a) refl (removed_is a xs apart.1) where
  by : (here : Bool) → (x == a) ≡ here → remove_key (is_at (nat_cmp a)) xs ≡ filter (λ q. not (q == a)) xs → cond here xs (x ∷ remove_key (is_at (nat_cmp a)) xs) ≡ cond (not here) (x ∷ filter (λ q. not (q == a)) xs) (filter (λ q. not (q == a)) xs)
  by true is rest = sym (filter_all (λ q. not (q == a)) xs (others_stay a xs (subst (λ (n : ℕ). AllByRecursion (λ y. y ≢ n) xs) (eqb-true x a is) apart.0)))
  by false is rest = ap (λ (t : List ℕ). x ∷ t) rest

pub numbers_above : (n m : ℕ) (xs : List ℕ) → n < m → AreNumbersFrom m xs → AllByRecursion (λ y. y ≢ n) xs
numbers_above n m [] low all = tt
numbers_above n m (x ∷ xs) low all = (λ same. absurd (omega (arith, low, all.0, same)), numbers_above n (m + 1) xs (omega (arith, low)) all.1)

pub numbers_apart : (n : ℕ) (xs : List ℕ) → AreNumbersFrom n xs → AreDistinct xs
numbers_apart n [] all = tt
numbers_apart n (x ∷ xs) all = (subst (λ (k : ℕ). AllByRecursion (λ y. y ≢ k) xs) (sym all.0) (numbers_above n (n + 1) xs (omega arith) all.1), numbers_apart (n + 1) xs all.1)

-- the next number may follow
pub numbers_push : (n : ℕ) (xs : List ℕ) (x : ℕ) → AreNumbersFrom n xs → x ≡ n + length xs → AreNumbersFrom n (xs ++ x ∷ [])
numbers_push n [] x all next = (omega (arith, next), tt)
numbers_push n (y ∷ xs) x all next = (all.0, numbers_push (n + 1) xs x all.1 (omega (arith, next)))

lower : (n m : ℕ) (xs : List ℕ) → n ≤ m → AllByRecursion (λ y. y < n) xs → AllByRecursion (λ y. y < m) xs
lower n m [] le all = tt
lower n m (x ∷ xs) le all = (omega (arith, le, all.0), lower n m xs le all.1)

pub numbers_below : (n : ℕ) (xs : List ℕ) → AreNumbersFrom n xs → AllByRecursion (λ y. y < n + length xs) xs
numbers_below n [] all = tt
numbers_below n (x ∷ xs) all = (omega (arith, all.0), lower (n + 1 + length xs) (n + length (x ∷ xs)) xs (omega arith) (numbers_below (n + 1) xs all.1))

-- a number above all others stands behind them
pub inserted_above : (a : ℕ) (xs : List ℕ) → AllByRecursion (λ y. y < a) xs → insert_key nat_cmp xs a ≡ xs ++ a ∷ []
inserted_above a [] low = refl
inserted_above a (x ∷ xs) low =
    ap (λ (o : Ordering). match_ordering o (a ∷ x ∷ xs) (x ∷ xs) (x ∷ insert_key nat_cmp xs a)) (sym (nat_cmp_is a x Greater low.0))
    ∙ ap (λ (t : List ℕ). x ∷ t) (inserted_above a xs low.1)
