-- What a list contains.
use Rattle.std.proofs.Common.{◌≡◌, ◌⊎◌, ℕ, zero, suc, ◌<◌, Bool, true, List, [], ◌∷◌, ◌++◌, length, get_or, map, Option, Some, None, refl, ap, sym, ◌∙◌, subst, arith, inl, inr}
use Rattle.std.specs.List.{Contains, filter_map, cons_option, flat_map, list_any}
use Rattle.std.proofs.lemmas.Bool.{or_cases}
use Rattle.std.proofs.lemmas.List.{get_or-map, length-map}
use Rattle.std.proofs.lemmas.List.Elements.{Contains-append_left, Contains-append_right}

pub here : {A : Type 0} (x y : A) (xs : List A) → x ≡ y → Contains (x ∷ xs) y
here x y xs e = (0, omega arith, e)

pub behind : {A : Type 0} (x y : A) (xs : List A) → Contains xs y → Contains (x ∷ xs) y
behind x y xs (k, l, e) = (suc k, omega arith, e)

member_at : {A : Type 0} (x y : A) (xs : List A) (k : ℕ) → k < suc (length xs) → get_or (x ∷ xs) k y ≡ y → (x ≡ y) ⊎ Contains xs y
member_at x y xs zero l at = inl at
member_at x y xs (suc k) l at = inr (k, omega arith, at)

-- the first, or one of the others
pub member : {A : Type 0} (x y : A) (xs : List A) → Contains (x ∷ xs) y → (x ≡ y) ⊎ Contains xs y
member x y xs (k, l, at) = member_at x y xs k l at

-- an element that passes
pub record Passing {A : Type 0} (test : A → Bool) (xs : List A) : Type 0 where
  pub item : A
  pub among : Contains xs item
  pub passes : test item ≡ true

passing_first : {A : Type 0} (test : A → Bool) (x : A) (xs : List A) → (test x ≡ true) ⊎ (list_any test xs ≡ true) → (list_any test xs ≡ true → Passing test xs) → Passing test (x ∷ xs)
passing_first test x xs (inl e) rest = record { item = x; among = here x x xs refl; passes = e }
passing_first test x xs (inr e) rest = let p : Passing test xs = rest e in record { item = p.item; among = behind x p.item xs p.among; passes = p.passes }

pub passing : {A : Type 0} (test : A → Bool) (xs : List A) → list_any test xs ≡ true → Passing test xs
passing test [] e = absurd (cc)
passing test (x ∷ xs) e = passing_first test x xs (or_cases (test x) (list_any test xs) e) (λ f. passing test xs f)

-- what a function gives at a member
kept_behind : {A : Type 0} (o : Option A) (ys : List A) (y : A) → Contains ys y → Contains (cons_option o ys) y
kept_behind None ys y c = c
kept_behind (Some z) ys y c = behind z y ys c

given_first : {A B : Type 0} (h : A → Option B) (a : A) (xs : List A) (x : A) (y : B) (k : ℕ) → k < suc (length xs) → get_or (a ∷ xs) k x ≡ x → h x ≡ Some y
    → (Contains xs x → Contains (filter_map h xs) y) → Contains (cons_option (h a) (filter_map h xs)) y
given_first h a xs x y zero l at e rest = let same : h a ≡ Some y = ap h at ∙ e in rw same (here y y (filter_map h xs) refl)
given_first h a xs x y (suc k) l at e rest = kept_behind (h a) (filter_map h xs) y (rest (k, omega arith, at))

pub given : {A B : Type 0} (h : A → Option B) (xs : List A) (x : A) (y : B) → Contains xs x → h x ≡ Some y → Contains (filter_map h xs) y
given h [] x y (k, l, at) e = absurd (omega arith)
given h (a ∷ xs) x y (k, l, at) e = given_first h a xs x y k l at e (λ c. given h xs x y c e)

joined_first : {A B : Type 0} (f : A → List B) (a : A) (xs : List A) (x : A) (y : B) (k : ℕ) → k < suc (length xs) → get_or (a ∷ xs) k x ≡ x → Contains (f x) y
    → (Contains xs x → Contains (flat_map f xs) y) → Contains (f a ++ flat_map f xs) y
joined_first {A} {B} f a xs x y zero l at c rest = let P : A → Type 0 = λ z. Contains (f z) y in Contains-append_left (f a) (flat_map f xs) y (subst P (sym at) c)
joined_first f a xs x y (suc k) l at c rest = Contains-append_right (f a) (flat_map f xs) y (rest (k, omega arith, at))

pub joined : {A B : Type 0} (f : A → List B) (xs : List A) (x : A) (y : B) → Contains xs x → Contains (f x) y → Contains (flat_map f xs) y
joined f [] x y (k, l, at) c = absurd (omega arith)
joined f (a ∷ xs) x y (k, l, at) c = joined_first f a xs x y k l at c (λ d. joined f xs x y d c)

pub mapped : {A B : Type 0} (f : A → B) (xs : List A) (x : A) → Contains xs x → Contains (map f xs) (f x)
mapped f xs x (k, l, at) = (k, rw length-map l, get_or-map f xs k x (f x) l ∙ ap f at)
