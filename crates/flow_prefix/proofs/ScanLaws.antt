-- Where the first `::` stands.
use Rattle.std.proofs.Common.{◌≡◌, ℕ, zero, suc, ◌+◌, ◌<◌, ◌≤◌, true, false, ◌&&◌, eqb, List, [], ◌∷◌, ◌++◌, length, get_or, take, drop, Option, Some, None, refl, sym, ap, ◌∙◌, arith, ⊎_elim, ◌-◌}
use Rattle.std.specs.List.{position}
use Rattle.std.proofs.lemmas.Bool.{cases_Bool, and_parts, eqb-true, eq-eqb}
use Rattle.std.proofs.lemmas.Option.{none-some, some_pair_parts}
use Rattle.std.proofs.lemmas.List.{take_rest}
use Rattle.flow_prefix.specs.Reading.{at_double, onto_left, cut_at}

pub cut_at-found : (byte : ℕ) (text : List ℕ) (i : ℕ) → position (λ c. eqb c byte) text ≡ Some i → Some (take i text, take (length text - (i + 1)) (drop (i + 1) text)) ≡ cut_at byte text
unfolding cut_at
cut_at-found byte text i e = rw (e, take_rest) refl

pub cut_at-none : (byte : ℕ) (text : List ℕ) → position (λ c. eqb c byte) text ≡ None → cut_at byte text ≡ None
unfolding cut_at
cut_at-none byte text e = rw e refl

-- two colons stand at the place
pub record IsDouble (text : List ℕ) (k : ℕ) : Type 0 where
  pub first : get_or text k 0 ≡ 58
  pub second : get_or text (k + 1) 0 ≡ 58

no_double : (c d : ℕ) (rest : List ℕ) → (IsDouble (c ∷ d ∷ rest) 0 → ⊥) → (eqb c 58 && eqb d 58) ≡ false
no_double c d rest none =
    ⊎_elim (λ (e : (eqb c 58 && eqb d 58) ≡ true).
    let both = and_parts (eqb c 58) (eqb d 58) e in
    absurd (none (record { first = eqb-true c 58 both.0; second = eqb-true d 58 both.1 })))
    (λ (e : (eqb c 58 && eqb d 58) ≡ false). e)
    (cases_Bool (eqb c 58 && eqb d 58))

later : (c : ℕ) (text : List ℕ) (k : ℕ) → IsDouble text k → IsDouble (c ∷ text) (suc k)
later c text k h = record { first = h.first; second = let e : suc k + 1 ≡ suc (k + 1) = omega arith in rw e h.second }

sooner : (c : ℕ) (text : List ℕ) (k : ℕ) → IsDouble (c ∷ text) (suc k) → IsDouble text k
sooner c text k h = record { first = h.first; second = let e : suc k + 1 ≡ suc (k + 1) = omega arith in rw e at h.second }

pub at_double-found : (text : List ℕ) (i : ℕ) → i + 1 < length text → ((k : ℕ) → k < i → IsDouble text k → ⊥) → IsDouble text i → at_double text ≡ Some (take i text, drop (i + 2) text)
at_double-found [] i h none found = absurd (omega arith)
at_double-found (c ∷ []) i h none found = absurd (omega arith)
at_double-found (c ∷ d ∷ rest) zero h none found =
    rw (eq-eqb c 58 found.first, eq-eqb d 58 found.second) refl
at_double-found (c ∷ d ∷ rest) (suc i) h none found =
    let before = at_double-found (d ∷ rest) i (omega arith) (λ k low double. none (suc k) (omega arith) (later c (d ∷ rest) k double)) (sooner c (d ∷ rest) i found) in
    let test = no_double c d rest (none 0 (omega arith)) in
    let place : suc i + 2 ≡ suc (i + 2) = omega arith in
    rw (test, before, place) refl

pub at_double-none : (text : List ℕ) → ((k : ℕ) → k + 1 < length text → IsDouble text k → ⊥) → at_double text ≡ None
at_double-none [] none = refl
at_double-none (c ∷ []) none = refl
at_double-none (c ∷ d ∷ rest) none =
    let after = at_double-none (d ∷ rest) (λ k low double. none (suc k) (omega arith) (later c (d ∷ rest) k double)) in
    let test = no_double c d rest (none 0 (omega arith)) in
    rw (test, after) refl

-- the sides of the `::` that ends before the place
pub at_double-at : (text : List ℕ) (at : ℕ) → 1 ≤ at → at < length text → ((k : ℕ) → k + 1 < at → IsDouble text k → ⊥) → get_or text (at - 1) 0 ≡ 58 → get_or text at 0 ≡ 58 → Some (take (at - 1) text, take (length text - (at + 1)) (drop (at + 1) text)) ≡ at_double text
at_double-at text at low high none first second =
    let place : at - 1 + 1 ≡ at = omega arith in
    let after : at - 1 + 2 ≡ at + 1 = omega arith in
    let found = at_double-found text (at - 1) (omega arith) (λ k small double. none k (omega arith) double) (record { first = first; second = rw place second }) in
    rw take_rest (sym (rw after at found))

-- the text is what stands on both sides
onto_left-some : (c : ℕ) (o : Option (List ℕ × List ℕ)) (before after : List ℕ) → onto_left c o ≡ Some (before, after) → (rest : List ℕ) × (o ≡ Some (rest, after)) × (before ≡ c ∷ rest)
onto_left-some c None before after e = absurd (none-some (before, after) e)
onto_left-some c (Some x) before after e =
    let same = some_pair_parts (c ∷ x.0) before x.1 after e in
    (x.0, ap (λ t. Some (x.0, t)) same.1, sym same.0)

pub at_double-text : (text before after : List ℕ) → at_double text ≡ Some (before, after) → text ≡ before ++ 58 ∷ 58 ∷ after
at_double-text [] before after e = absurd (none-some (before, after) e)
at_double-text (c ∷ []) before after e = absurd (none-some (before, after) e)
at_double-text (c ∷ d ∷ rest) before after e =
    ⊎_elim (λ (double : (eqb c 58 && eqb d 58) ≡ true).
    let both = and_parts (eqb c 58) (eqb d 58) double in
    let same = some_pair_parts [] before rest after (rw double at e) in
    let first = eqb-true c 58 both.0 in
    let second = eqb-true d 58 both.1 in
    rw (first, second) (ap (λ t. t ++ 58 ∷ 58 ∷ rest) same.0 ∙ ap (λ t. before ++ 58 ∷ 58 ∷ t) same.1))
    (λ (other : (eqb c 58 && eqb d 58) ≡ false).
    let inner = onto_left-some c (at_double (d ∷ rest)) before after (rw other at e) in
    ap (λ t. c ∷ t) (at_double-text (d ∷ rest) inner.0 after inner.1) ∙ ap (λ t. t ++ 58 ∷ 58 ∷ after) (sym inner.2))
    (cases_Bool (eqb c 58 && eqb d 58))
