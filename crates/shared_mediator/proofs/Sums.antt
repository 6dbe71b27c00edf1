-- Sums over numbers of which none stands twice.
use Rattle.std.proofs.Common.{◌≡◌, ℕ, ◌+◌, Bool, true, false, cond, List, [], ◌∷◌, refl, sym, ap, ◌∙◌, arith}
use Rattle.std.specs.Prelude.{◌≢◌, ◌||◌, not, ◌==◌, filter}
use Rattle.std.specs.List.{sum_by, AllByRecursion}
use Rattle.std.proofs.lemmas.Bool.{false≢true, eqb-true, ne_eqb, eq-eqb}
use Rattle.std.proofs.lemmas.List.Sums.{sum_by-cons}
use Rattle.mediator_history.specs.Numbers.{is_in, AreDistinct}
use Rattle.mediator_history.proofs.LastLaws.{all_of}
use Rattle.mediator_history.proofs.ListFilters.{filter_all, all_filter}

pub sums_alike : (f g : ℕ → ℕ) (xs : List ℕ) → AllByRecursion (λ x. f x ≡ g x) xs → sum_by f xs ≡ sum_by g xs
sums_alike f g [] same = refl
sums_alike f g (x ∷ xs) same = omega (arith, sum_by-cons f x xs, sum_by-cons g x xs, same.0, sums_alike f g xs same.1)

-- all but one
pub sum_without : (f : ℕ → ℕ) (n : ℕ) (xs : List ℕ) → AreDistinct xs → is_in n xs ≡ true → sum_by f (filter (λ q. not (q == n)) xs) + f n ≡ sum_by f xs
sum_without f n [] apart there = absurd (false≢true there)
sum_without f n (x ∷ xs) apart there = by_number (x == n) refl there (λ among. sum_without f n xs apart.1 among) where
  others : List ℕ
  others = filter (λ q. not (q == n)) xs

  kept : x ≡ n → (q : ℕ) → q ≢ x → not (q == n) ≡ true
  kept is q other = ap not (ne_eqb q n (λ same. other (same ∙ sym is)))

  by_number : (same : Bool) → (x == n) ≡ same → (same || is_in n xs) ≡ true → (is_in n xs ≡ true → sum_by f others + f n ≡ sum_by f xs) → sum_by f (cond (not same) (x ∷ others) others) + f n ≡ sum_by f (x ∷ xs)
  by_number true is among rest =
      let same : x ≡ n = eqb-true x n is in
      let all : others ≡ xs = filter_all (λ q. not (q == n)) xs (all_of (kept same) xs apart.0) in
      omega (arith, sum_by-cons f x xs, ap (sum_by f) all, ap f same)
  by_number false is among rest = omega (arith, sum_by-cons f x xs, sum_by-cons f x others, rest among)

-- where one term alone grows, the sum grows by as much
pub sum_moved : (f g : ℕ → ℕ) (n more : ℕ) (xs : List ℕ) → AreDistinct xs → is_in n xs ≡ true → g n ≡ f n + more → ((q : ℕ) → q ≢ n → g q ≡ f q) → sum_by g xs ≡ sum_by f xs + more
sum_moved f g n more xs apart there grows others =
    omega (arith, grows, sum_without f n xs apart there, sum_without g n xs apart there, sums_alike g f rest (all_of same rest (all_filter (λ q. not (q == n)) xs))) where
      rest : List ℕ
      rest = filter (λ q. not (q == n)) xs

      same : (q : ℕ) → not (q == n) ≡ true → g q ≡ f q
      same q kept = others q (λ is. false≢true (sym (ap not (eq-eqb q n is)) ∙ kept))
