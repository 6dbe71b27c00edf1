-- Lists made place by place, and what is found in them.
use Rattle.std.proofs.Common.{◌≡◌, ℕ, zero, suc, ◌+◌, ◌<◌, ◌≤◌, Bool, true, false, cond, List, [], ◌∷◌, ◌++◌, length, map, Some, refl, sym, ap, ◌∙◌, arith}
use Rattle.std.specs.Prelude.{slice_get, ◌||◌}
use Rattle.std.specs.List.{find, enumerate_from, range_with_len, list_any, AllByRecursion, AllZip}

pub map_alike : {A B : Type 0} (f g : A → B) (xs : List A) → ((x : A) → f x ≡ g x) → map f xs ≡ map g xs
map_alike f g [] same = refl
map_alike f g (x ∷ xs) same = ap (λ y. y ∷ map f xs) (same x) ∙ ap (λ ys. g x ∷ ys) (map_alike f g xs same)

-- two functions that agree at the places of a list
pub range_alike : {B : Type 0} (f g : ℕ → B) (a n : ℕ) → ((k : ℕ) → a ≤ k → k < a + n → f k ≡ g k) → map f (range_with_len a n) ≡ map g (range_with_len a n)
range_alike f g a zero same = refl
range_alike f g a (suc n) same =
    ap (λ y. y ∷ map f (range_with_len (a + 1) n)) (same a (omega arith) (omega arith))
    ∙ ap (λ ys. g a ∷ ys) (range_alike f g (a + 1) n (λ k le lt. same k (omega arith) (omega arith)))

-- what stands at a place
pub range_at : {B : Type 0} (f : ℕ → B) (a n i : ℕ) (y : B) → slice_get (map f (range_with_len a n)) i ≡ Some y → y ≡ f (a + i)
range_at f a zero i y at = absurd cc
range_at f a (suc n) zero y at = let here : f a ≡ y = cc in let same : a + 0 ≡ a = omega arith in sym here ∙ ap f (sym same)
range_at f a (suc n) (suc i) y at = let same : a + 1 + i ≡ a + suc i = omega arith in range_at f (a + 1) n i y at ∙ ap f same

-- a function of the places of a list, as one of its items
pub range_items : {A B : Type 0} (f : ℕ → B) (h : A → B) (a : ℕ) (xs : List A) → ((i : ℕ) (x : A) → slice_get xs i ≡ Some x → f (a + i) ≡ h x)
    → map f (range_with_len a (length xs)) ≡ map h xs
range_items f h a [] same = refl
range_items f h a (x ∷ xs) same =
    let here : a + 0 ≡ a = omega arith in
    ap (λ y. y ∷ map f (range_with_len (a + 1) (length xs))) (ap f (sym here) ∙ same 0 x refl)
    ∙ ap (λ ys. h x ∷ ys) (range_items f h (a + 1) xs (λ i y at. let next : a + 1 + i ≡ a + suc i = omega arith in ap f next ∙ same (suc i) y at))

pub range_zip : {B : Type 0} (R : B → B → Type 0) (f g : ℕ → B) (a n : ℕ) → ((k : ℕ) → R (f k) (g k)) → AllZip R (map f (range_with_len a n)) (map g (range_with_len a n))
range_zip R f g a zero each = tt
range_zip R f g a (suc n) each = (each a, range_zip R f g (a + 1) n each)

-- tests that agree on a list find the same
pub find_alike : {A : Type 0} (p q : A → Bool) (n : ℕ) (xs : List A) → AllByRecursion (λ x. p x ≡ q x) xs
    → find (λ x. p x.1) (enumerate_from n xs) ≡ find (λ x. q x.1) (enumerate_from n xs)
find_alike p q n [] same = refl
find_alike p q n (x ∷ xs) same =
    ap (λ b. cond b (Some (n, x)) (find (λ y. p y.1) (enumerate_from (n + 1) xs))) same.0
    ∙ ap (λ rest. cond (q x) (Some (n, x)) rest) (find_alike p q (n + 1) xs same.1)

pub each_so : {A : Type 0} (P Q : A → Type 0) (xs : List A) → ((x : A) → P x → Q x) → AllByRecursion P xs → AllByRecursion Q xs
each_so P Q [] so all = tt
each_so P Q (x ∷ xs) so all = (so x all.0, each_so P Q xs so all.1)

-- what is found in front
pub find_front : {A : Type 0} (test : A → Bool) (n : ℕ) (front back : List A) → list_any test front ≡ true
    → find (λ x. test x.1) (enumerate_from n (front ++ back)) ≡ find (λ x. test x.1) (enumerate_from n front)
find_front test n [] back some = absurd cc
find_front test n (x ∷ front) back some =
    elim (test x) as (λ b. (b || list_any test front) ≡ true → cond b (Some (n, x)) (find (λ y. test y.1) (enumerate_from (n + 1) (front ++ back))) ≡ cond b (Some (n, x)) (find (λ y. test y.1) (enumerate_from (n + 1) front)))
    [ true ↦ λ _. refl | false ↦ λ others. find_front test (n + 1) front back others ] some
