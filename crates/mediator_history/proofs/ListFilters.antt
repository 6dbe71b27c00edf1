-- What a filter keeps of a list, and lists of numbers in which none stands twice.
use Rattle.std.proofs.Common.{◌≡◌, ℕ, Bool, true, false, cond, List, [], ◌∷◌, ◌++◌, refl, sym, ap, ◌∙◌}
use Rattle.std.specs.Prelude.{◌≢◌, ◌&&◌, ◌||◌, ◌==◌, filter}
use Rattle.std.specs.List.{AllByRecursion}
use Rattle.std.proofs.lemmas.Bool.{eqb-true, and_right}
use Rattle.std.proofs.lemmas.List.Elements.{filter_agree}
use Rattle.std.proofs.lemmas.List.Folds.{list_any-append}
use Rattle.sequences.proofs.ListLaws.{AllByRecursion-append}
use Rattle.mediator_history.specs.Numbers.{is_in, AreDistinct}

-- ---- filters

pub filter_ext : {A : Type 0} (p q : A → Bool) → ((x : A) → p x ≡ q x) → (xs : List A) → filter p xs ≡ filter q xs
filter_ext p q same xs = filter_agree p q same xs

-- tests that agree on a list keep the same of it
pub filter_alike : {A : Type 0} (p q : A → Bool) (xs : List A) → AllByRecursion (λ x. p x ≡ q x) xs → filter p xs ≡ filter q xs
filter_alike p q [] same = refl
filter_alike {A} p q (x ∷ xs) same = rw same.0 (ap (λ (t : List A). cond (q x) (x ∷ t) t) (filter_alike p q xs same.1))

pub filter_filter : {A : Type 0} (p q : A → Bool) (xs : List A) → filter p (filter q xs) ≡ filter (λ x. q x && p x) xs
filter_filter p q [] = refl
filter_filter {A} p q (x ∷ xs) = by_test (q x) (filter_filter p q xs) where
  by_test : (b : Bool) → filter p (filter q xs) ≡ filter (λ y. q y && p y) xs → filter p (cond b (x ∷ filter q xs) (filter q xs)) ≡ cond (b && p x) (x ∷ filter (λ y. q y && p y) xs) (filter (λ y. q y && p y) xs)
  by_test true others = ap (λ (t : List A). cond (p x) (x ∷ t) t) others
  by_test false others = others

pub filter_none : {A : Type 0} (p : A → Bool) (xs : List A) → AllByRecursion (λ x. p x ≡ false) xs → filter p xs ≡ []
filter_none p [] none = refl
filter_none p (x ∷ xs) none = rw none.0 (filter_none p xs none.1)

pub filter_all : {A : Type 0} (p : A → Bool) (xs : List A) → AllByRecursion (λ x. p x ≡ true) xs → filter p xs ≡ xs
filter_all p [] all = refl
filter_all {A} p (x ∷ xs) all = rw all.0 (ap (λ (t : List A). x ∷ t) (filter_all p xs all.1))

pub all_filter : {A : Type 0} (p : A → Bool) (xs : List A) → AllByRecursion (λ x. p x ≡ true) (filter p xs)
all_filter p [] = tt
all_filter p (x ∷ xs) = by_test (p x) refl (all_filter p xs) where
  by_test : (b : Bool) → p x ≡ b → AllByRecursion (λ y. p y ≡ true) (filter p xs) → AllByRecursion (λ y. p y ≡ true) (cond b (x ∷ filter p xs) (filter p xs))
  by_test true is others = (is, others)
  by_test false is others = others

pub all_of_filter : {A : Type 0} (P : A → Type 0) (p : A → Bool) (xs : List A) → AllByRecursion P xs → AllByRecursion P (filter p xs)
all_of_filter P p [] all = tt
all_of_filter P p (x ∷ xs) all = by_test (p x) (all_of_filter P p xs all.1) where
  by_test : (b : Bool) → AllByRecursion P (filter p xs) → AllByRecursion P (cond b (x ∷ filter p xs) (filter p xs))
  by_test true others = (all.0, others)
  by_test false others = others

-- ---- numbers in a list

pub is_in-filter : (p : ℕ → Bool) (x : ℕ) (xs : List ℕ) → is_in x (filter p xs) ≡ (p x && is_in x xs)
is_in-filter p x [] = sym (and_right (p x) false refl)
is_in-filter p x (y ∷ ys) = by_tests (p y) (y == x) refl refl (is_in-filter p x ys) where
  by_tests : (b s : Bool) → p y ≡ b → (y == x) ≡ s → is_in x (filter p ys) ≡ (p x && is_in x ys) → is_in x (cond b (y ∷ filter p ys) (filter p ys)) ≡ (p x && (s || is_in x ys))
  by_tests true true passes same others = let at : p x ≡ true = ap p (sym (eqb-true y x same)) ∙ passes in rw (same, at) refl
  by_tests false true passes same others = let at : p x ≡ false = ap p (sym (eqb-true y x same)) ∙ passes in others ∙ (rw at refl)
  by_tests true false passes same others = rw same others
  by_tests false false passes same others = others

pub is_in-append : (x : ℕ) (xs ys : List ℕ) → is_in x (xs ++ ys) ≡ (is_in x xs || is_in x ys)
is_in-append x xs ys = list_any-append (λ y. y == x) xs ys

-- ---- lists in which no number stands twice

pub distinct_filter : (p : ℕ → Bool) (xs : List ℕ) → AreDistinct xs → AreDistinct (filter p xs)
distinct_filter p [] apart = tt
distinct_filter p (x ∷ xs) apart = by_test (p x) (distinct_filter p xs apart.1) where
  by_test : (b : Bool) → AreDistinct (filter p xs) → AreDistinct (cond b (x ∷ filter p xs) (filter p xs))
  by_test true others = (all_of_filter (λ y. y ≢ x) p xs apart.0, others)
  by_test false others = others

pub distinct_push : (xs : List ℕ) (x : ℕ) → AreDistinct xs → AllByRecursion (λ y. y ≢ x) xs → AreDistinct (xs ++ x ∷ [])
distinct_push [] x apart new = (tt, tt)
distinct_push (y ∷ ys) x apart new = (AllByRecursion-append (λ z. z ≢ y) ys (x ∷ []) apart.0 (λ same. new.0 (sym same), tt), distinct_push ys x apart.1 new.1)
