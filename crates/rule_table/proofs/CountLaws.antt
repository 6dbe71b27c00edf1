-- How many cuts are below an address.
use Rattle.std.proofs.Common.{◌≡◌, ◌⊎◌, ◌^◌, Bool, true, false, refl, sym, ℕ, zero, suc, ◌+◌, ◌<◌, ◌≤◌, List, [], ◌∷◌, length, get_or, cond, ap, ◌∙◌, arith, inl, inr, nat_lt}
use Rattle.std.specs.List.{Contains}
use Rattle.std.proofs.lemmas.Bool.{cases_lt, lt-ltb, le-ltb, ltb-false, ltb-true}
use Rattle.std.proofs.lemmas.List.Sums.{sum_by-cons, length-filter, count_by-le-length}
use Rattle.std.proofs.lemmas.List.Kept.{IsNonDecreasingBy-filter}
use Rattle.std.specs.List.Sorted.{IsNonDecreasing}
use Rattle.rule_table.specs.Cuts.{narrow_cuts}
use Rattle.rule_table.specs.Classes.{class_of}

pub one_more : (cut : ℕ) (cuts : List ℕ) (address : ℕ) → cut < address → class_of (cut ∷ cuts) address ≡ 1 + class_of cuts address
one_more cut cuts address below = sum_by-cons (λ c. cond (nat_lt c address) 1 0) cut cuts ∙ ap (λ b. cond b 1 0 + class_of cuts address) (lt-ltb cut address below)

none_more : (cut : ℕ) (cuts : List ℕ) (address : ℕ) → address ≤ cut → class_of (cut ∷ cuts) address ≡ class_of cuts address
none_more cut cuts address above =
    let sum : class_of (cut ∷ cuts) address ≡ 0 + class_of cuts address = sum_by-cons (λ c. cond (nat_lt c address) 1 0) cut cuts ∙ ap (λ b. cond b 1 0 + class_of cuts address) (le-ltb cut address above) in
    omega (arith, sum)

-- ---- as many as stand in front of a bound

pub class_at : (cuts : List ℕ) (address n : ℕ) → n ≤ length cuts → ((k : ℕ) → k < n → get_or cuts k 0 < address)
    → ((k : ℕ) → n ≤ k → k < length cuts → address ≤ get_or cuts k 0) → n ≡ class_of cuts address
class_at [] address n within below above = let none : n ≡ 0 = omega arith in none
class_at (cut ∷ cuts) address zero within below above =
    let rest : 0 ≡ class_of cuts address = class_at cuts address zero (omega arith) (λ k l. absurd (omega (arith, l))) (λ k l m. above (suc k) (omega arith) (omega arith)) in
    omega (arith, rest, none_more cut cuts address (above 0 (omega arith) (omega arith)))
class_at (cut ∷ cuts) address (suc n) within below above =
    let rest : n ≡ class_of cuts address = class_at cuts address n (omega arith) (λ k l. below (suc k) (omega arith)) (λ k l m. above (suc k) (omega arith) (omega arith)) in
    omega (arith, rest, one_more cut cuts address (below 0 (omega arith)))

-- ---- a cut between two addresses tells their classes apart

at_least-step : (cut : ℕ) (cuts : List ℕ) (low high : ℕ) → low ≤ high → class_of cuts low ≤ class_of cuts high → (cut < low) ⊎ (low ≤ cut) → (cut < high) ⊎ (high ≤ cut)
    → class_of (cut ∷ cuts) low ≤ class_of (cut ∷ cuts) high
at_least-step cut cuts low high up rest (inl l) (inl m) = omega (arith, one_more cut cuts low l, one_more cut cuts high m, rest)
at_least-step cut cuts low high up rest (inl l) (inr m) = absurd (omega arith)
at_least-step cut cuts low high up rest (inr l) (inl m) = omega (arith, none_more cut cuts low l, one_more cut cuts high m, rest)
at_least-step cut cuts low high up rest (inr l) (inr m) = omega (arith, none_more cut cuts low l, none_more cut cuts high m, rest)

-- a greater address has no smaller class
pub at_least : (cuts : List ℕ) (low high : ℕ) → low ≤ high → class_of cuts low ≤ class_of cuts high
at_least [] low high up = omega arith
at_least (cut ∷ cuts) low high up = at_least-step cut cuts low high up (at_least cuts low high up) (cases_lt cut low) (cases_lt cut high)

more-step : (cut : ℕ) (cuts : List ℕ) (low high : ℕ) → low ≤ high → class_of cuts low < class_of cuts high → (cut < low) ⊎ (low ≤ cut) → (cut < high) ⊎ (high ≤ cut)
    → class_of (cut ∷ cuts) low < class_of (cut ∷ cuts) high
more-step cut cuts low high up rest (inl l) (inl m) = omega (arith, one_more cut cuts low l, one_more cut cuts high m, rest)
more-step cut cuts low high up rest (inl l) (inr m) = absurd (omega arith)
more-step cut cuts low high up rest (inr l) (inl m) = omega (arith, none_more cut cuts low l, one_more cut cuts high m, rest)
more-step cut cuts low high up rest (inr l) (inr m) = omega (arith, none_more cut cuts low l, none_more cut cuts high m, rest)

more : (cuts : List ℕ) (low high at : ℕ) → low ≤ at → at < high → Contains cuts at → class_of cuts low < class_of cuts high
more [] low high at up down (k, l, there) = absurd (omega arith)
more (cut ∷ cuts) low high at up down (zero, l, there) =
    let here : cut ≡ at = there in
    omega (arith, none_more cut cuts low (omega arith), one_more cut cuts high (omega arith), at_least cuts low high (omega arith))
more (cut ∷ cuts) low high at up down (suc k, l, there) =
    more-step cut cuts low high (omega arith) (more cuts low high at up down (k, omega arith, there)) (cases_lt cut low) (cases_lt cut high)

below_too : (cuts : List ℕ) (v u at : ℕ) → class_of cuts v ≡ class_of cuts u → Contains cuts at → at < v → (at < u) ⊎ (u ≤ at) → at < u
below_too cuts v u at same there below (inl l) = l
below_too cuts v u at same there below (inr l) = absurd (omega (arith, more cuts u v at l below there, same))

-- each cut is below both addresses of a class, or below none
pub below_both : (cuts : List ℕ) (v u at : ℕ) → class_of cuts v ≡ class_of cuts u → Contains cuts at → at < v → at < u
below_both cuts v u at same there below = below_too cuts v u at same there below (cases_lt at u)

-- ---- the cuts below 2^32 alone

narrow_by : (cut : ℕ) (cuts : List ℕ) (address : ℕ) (b : Bool) → nat_lt cut (2 ^ 32) ≡ b → address < 2 ^ 32 → class_of (narrow_cuts cuts) address ≡ class_of cuts address
    → class_of (cond b (cut ∷ narrow_cuts cuts) (narrow_cuts cuts)) address ≡ class_of (cut ∷ cuts) address
narrow_by cut cuts address true is narrow rest =
    sum_by-cons (λ c. cond (nat_lt c address) 1 0) cut (narrow_cuts cuts) ∙ ap (λ n. cond (nat_lt cut address) 1 0 + n) rest ∙ sym (sum_by-cons (λ c. cond (nat_lt c address) 1 0) cut cuts)
narrow_by cut cuts address false is narrow rest =
    let above : 2 ^ 32 ≤ cut = ltb-false cut (2 ^ 32) is in
    rest ∙ sym (none_more cut cuts address (omega (arith, above, narrow)))

-- an address of IPv4 has all cuts below it among these
pub narrow_class : (cuts : List ℕ) (address : ℕ) → address < 2 ^ 32 → class_of (narrow_cuts cuts) address ≡ class_of cuts address
narrow_class [] address narrow = refl
narrow_class (cut ∷ cuts) address narrow = narrow_by cut cuts address (nat_lt cut (2 ^ 32)) refl narrow (narrow_class cuts address narrow)

pub narrow_ascending : (cuts : List ℕ) → IsNonDecreasing cuts → IsNonDecreasing (narrow_cuts cuts)
narrow_ascending cuts up = IsNonDecreasingBy-filter (λ n. n) (λ cut. nat_lt cut (2 ^ 32)) cuts up

pub narrow_few : (cuts : List ℕ) → length (narrow_cuts cuts) ≤ length cuts
narrow_few cuts = omega (arith, length-filter (λ cut. nat_lt cut (2 ^ 32)) cuts, count_by-le-length (λ cut. nat_lt cut (2 ^ 32)) cuts)

low_by : (cut : ℕ) (cuts : List ℕ) (b : Bool) → nat_lt cut (2 ^ 32) ≡ b → ((k : ℕ) → k < length (narrow_cuts cuts) → get_or (narrow_cuts cuts) k 0 < 2 ^ 32)
    → (k : ℕ) → k < length (cond b (cut ∷ narrow_cuts cuts) (narrow_cuts cuts)) → get_or (cond b (cut ∷ narrow_cuts cuts) (narrow_cuts cuts)) k 0 < 2 ^ 32
low_by cut cuts true is rest zero l = ltb-true cut (2 ^ 32) is
low_by cut cuts true is rest (suc k) l = rest k (omega (arith, l))
low_by cut cuts false is rest k l = rest k l

-- each is below 2^32
pub narrow_low : (cuts : List ℕ) (k : ℕ) → k < length (narrow_cuts cuts) → get_or (narrow_cuts cuts) k 0 < 2 ^ 32
narrow_low [] k l = absurd (omega (arith, l))
narrow_low (cut ∷ cuts) k l = low_by cut cuts (nat_lt cut (2 ^ 32)) refl (narrow_low cuts) k l
