-- Lists of marks: how many are set, and when two lists agree.
use Rattle.std.proofs.Common.{◌≡◌, ℕ, zero, suc, ◌+◌, ◌<◌, ◌≤◌, Bool, true, false, cond, List, [], ◌∷◌, length, map, drop, set, slice_get, filter, Some, refl, sym, ap, ◌∙◌, arith}
use Rattle.std.proofs.lemmas.Bool.{false≢true}
use Rattle.std.proofs.lemmas.Option.{none-some, same_Some}

-- ---- one place

pub get_set_same : {A : Type 0} (xs : List A) (i : ℕ) (y : A) → i < length xs → slice_get (set xs i y) i ≡ Some y
get_set_same [] i y within = absurd (omega arith)
get_set_same (x ∷ xs) zero y within = refl
get_set_same (x ∷ xs) (suc i) y within = get_set_same xs i y (omega arith)

pub get_set_other : {A : Type 0} (xs : List A) (i j : ℕ) (y : A) → (j ≡ i → ⊥) → slice_get (set xs i y) j ≡ slice_get xs j
get_set_other [] i j y other = refl
get_set_other (x ∷ xs) zero zero y other = absurd (other refl)
get_set_other (x ∷ xs) zero (suc j) y other = refl
get_set_other (x ∷ xs) (suc i) zero y other = refl
get_set_other (x ∷ xs) (suc i) (suc j) y other = get_set_other xs i j y (λ same. other (ap suc same))

pub get_drop : {A : Type 0} (n i : ℕ) (xs : List A) → slice_get (drop n xs) i ≡ slice_get xs (n + i)
get_drop zero i xs = ap (slice_get xs) same where
  same : i ≡ 0 + i
  same = omega arith
get_drop (suc n) i [] = refl
get_drop (suc n) i (x ∷ xs) = get_drop n i xs ∙ ap (slice_get (x ∷ xs)) same where
  same : suc (n + i) ≡ suc n + i
  same = omega arith

-- ---- how many are set

-- a mark that is set counts for one
pub count_unset : (marks : List Bool) (i : ℕ) → slice_get marks i ≡ Some true → length (filter (λ b. b) marks) ≡ suc (length (filter (λ b. b) (set marks i false)))
count_unset [] i is = absurd (none-some true is)
count_unset (x ∷ xs) zero is = let set_here : x ≡ true = same_Some x true is in rw set_here refl
count_unset (true ∷ xs) (suc i) is = ap suc (count_unset xs i is)
count_unset (false ∷ xs) (suc i) is = count_unset xs i is

pub none_set : (marks : List Bool) → ((i : ℕ) → i < length marks → slice_get marks i ≡ Some false) → length (filter (λ b. b) marks) ≡ 0
none_set [] none = refl
none_set (true ∷ xs) none = absurd (false≢true (sym (same_Some true false (none 0 (omega arith)))))
none_set (false ∷ xs) none = none_set xs (λ i within. none (suc i) (omega arith))

-- no more are set than in a list where at least these are
pub few : (xs ys : List Bool) → ((i : ℕ) → slice_get xs i ≡ Some true → slice_get ys i ≡ Some true) → length (filter (λ b. b) xs) ≤ length (filter (λ b. b) ys)
few [] ys below = omega arith
few (true ∷ xs) [] below = absurd (none-some true (below 0 refl))
few (false ∷ xs) [] below = few xs [] (λ i is. below (suc i) is)
few (true ∷ xs) (true ∷ ys) below = let others : length (filter (λ b. b) xs) ≤ length (filter (λ b. b) ys) = few xs ys (λ i is. below (suc i) is) in omega arith
few (true ∷ xs) (false ∷ ys) below = absurd (false≢true (same_Some false true (below 0 refl)))
few (false ∷ xs) (true ∷ ys) below = let others : length (filter (λ b. b) xs) ≤ length (filter (λ b. b) ys) = few xs ys (λ i is. below (suc i) is) in omega arith
few (false ∷ xs) (false ∷ ys) below = few xs ys (λ i is. below (suc i) is)

-- the lists are the same where as many are set
pub covered : (xs ys : List Bool) → length xs ≡ length ys → ((i : ℕ) → slice_get xs i ≡ Some true → slice_get ys i ≡ Some true) → length (filter (λ b. b) xs) ≡ length (filter (λ b. b) ys) → xs ≡ ys
covered [] [] long below counts = refl
covered [] (y ∷ ys) long below counts = absurd (omega arith)
covered (x ∷ xs) [] long below counts = absurd (omega arith)
covered (true ∷ xs) (true ∷ ys) long below counts = ap (λ (t : List Bool). true ∷ t) (covered xs ys (omega arith) (λ i is. below (suc i) is) (omega arith))
covered (false ∷ xs) (false ∷ ys) long below counts = ap (λ (t : List Bool). false ∷ t) (covered xs ys (omega arith) (λ i is. below (suc i) is) counts)
covered (true ∷ xs) (false ∷ ys) long below counts = absurd (false≢true (same_Some false true (below 0 refl)))
covered (false ∷ xs) (true ∷ ys) long below counts = let others : length (filter (λ b. b) xs) ≤ length (filter (λ b. b) ys) = few xs ys (λ i is. below (suc i) is) in absurd (omega arith)

-- as many pass a test as answers of it are true
pub count_passing : {A : Type 0} (passes : A → Bool) (xs : List A) → length (filter passes xs) ≡ length (filter (λ b. b) (map passes xs))
count_passing passes [] = refl
count_passing {A} passes (x ∷ xs) = by_test (passes x) (count_passing passes xs) where
  by_test : (b : Bool) → length (filter passes xs) ≡ length (filter (λ b. b) (map passes xs)) → length (cond b (x ∷ filter passes xs) (filter passes xs)) ≡ length (cond b (b ∷ filter (λ b. b) (map passes xs)) (filter (λ b. b) (map passes xs)))
  by_test true others = ap suc others
  by_test false others = others
