-- Laws of items that stand one after another.
use Rattle.std.proofs.Common.{◌≡◌, ℕ, zero, suc, ◌<◌, List, [], ◌++◌, length, Result, Ok, Err, refl, ap, append_assoc, arith}
use Rattle.sequences.specs.Sequence.{Front, End, Fault, Next, with_front, read_on, read_within, read_all, TakesSome}

pub with_front-nil : {A E : Type 0} (r : Result (List A) E) → with_front [] r ≡ r
with_front-nil (Ok xs) = refl
with_front-nil (Err e) = refl

pub with_front-append : {A E : Type 0} (xs ys : List A) (r : Result (List A) E) → with_front (xs ++ ys) r ≡ with_front xs (with_front ys r)
with_front-append {A} {E} xs ys (Ok zs) = let ok : List A → Result (List A) E = λ t. Ok t in ap ok (append_assoc xs ys zs)
with_front-append xs ys (Err e) = refl

-- two ways to read on that agree after the items at the front
same_after : {A E : Type 0} (front : List ℕ → Front A E) (one other : List ℕ → Result (List A) E) (octets : List ℕ) (f : Front A E) → front octets ≡ f → ((items : List A) (rest : List ℕ) → front octets ≡ Next items rest → one rest ≡ other rest) → read_on f one ≡ read_on f other
same_after front one other octets End e same = refl
same_after front one other octets (Fault d) e same = refl
same_after front one other octets (Next items rest) e same = ap (with_front items) (same items rest e)

-- any number of steps above the number of octets reads the same
pub read_within-enough : {A E : Type 0} (front : List ℕ → Front A E) → TakesSome front → (m n : ℕ) (octets : List ℕ) → length octets < m → length octets < n → read_within m front octets ≡ read_within n front octets
unfolding read_within
read_within-enough front some zero n octets p q = absurd (omega arith)
read_within-enough front some (suc m) zero octets p q = absurd (omega arith)
read_within-enough {A} {E} front some (suc m) (suc n) octets p q =
    same_after front (read_within m front) (read_within n front) octets (front octets) refl
    (λ items rest e. let less = some octets rest items e in read_within-enough front some m n rest (omega arith) (omega arith))

-- what stands at the front is gone before what follows
abbrev pub Lessens : {A E : Type 0} → ℕ → Front A E → Type 0
Lessens n End = Unit {0}
Lessens n (Fault e) = Unit {0}
Lessens n (Next items rest) = length rest < n

pub takes_some : {A E : Type 0} (front : List ℕ → Front A E) → ((octets : List ℕ) → Lessens (length octets) (front octets)) → TakesSome front
takes_some front h octets rest items e = rw e at (h octets)

-- what is read is what stands at the front, and what is read after it
pub read_all-step : {A E : Type 0} (front : List ℕ → Front A E) → TakesSome front → (octets : List ℕ) → read_all front octets ≡ read_on (front octets) (read_all front)
unfolding read_within read_all
read_all-step front some octets =
    same_after front (read_within (length octets) front) (read_all front) octets (front octets) refl
    (λ items rest e. let less = some octets rest items e in read_within-enough front some (length octets) (suc (length rest)) rest (omega arith) (omega arith))
