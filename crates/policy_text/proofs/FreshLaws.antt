-- Fewer than 256 aggregates leave a name.
use Rattle.std.proofs.Common.{◌≡◌, ℕ, zero, suc, ◌+◌, ◌-◌, ◌*◌, ◌/◌, ◌%◌, ◌<◌, ◌≤◌, true, false, not, eqb, List, [], ◌∷◌, length, filter, map, None, refl, sym, ap, ◌∙◌, subst, arith, ⊎_elim, mod-lt}
use Rattle.std.specs.List.{list_any, position_or_len}
use Rattle.std.specs.Str.{bytes_eq}
use Rattle.std.proofs.lemmas.Slice.Eq.{bytes_eq-Decides}
use Rattle.std.proofs.lemmas.List.{length-map}
use Rattle.std.proofs.lemmas.Bool.{cases_Bool, ne_eqb, eqb-true, le-ltb, false≢true}
use Rattle.std.proofs.lemmas.Bool.Decides.{nat_tests}
use Rattle.std.proofs.Math.Nat.{div-add-mod}
use Rattle.sequences.proofs.ListLaws.{Lacks}
use Rattle.policy_text.specs.Words.{Word}
use Rattle.policy_text.specs.Naming.{is_name}
use Rattle.policy_text.specs.Policies.{Aggregate as Definition}
use Rattle.policy_text.specs.Classes.{place_of}

absent_from : (n : ℕ) (xs : List ℕ) → list_any (λ x. eqb x n) xs ≡ false → Lacks n xs
absent_from n [] h = tt
absent_from n (x ∷ xs) h =
    ⊎_elim (λ (same : eqb x n ≡ true). absurd (false≢true (sym (rw same at h))))
    (λ (other : eqb x n ≡ false). (other, absent_from n xs (rw other at h)))
    (cases_Bool (eqb x n))

abbrev without : ℕ → List ℕ → List ℕ
without n xs = filter (λ x. not (eqb x n)) xs

no_longer : (n : ℕ) (xs : List ℕ) → length (without n xs) ≤ length xs
no_longer n [] = omega arith
no_longer n (x ∷ xs) =
    let shorter = no_longer n xs in
    ⊎_elim (λ (same : eqb x n ≡ true). rw same (omega arith))
    (λ (other : eqb x n ≡ false). rw other (omega arith))
    (cases_Bool (eqb x n))

shorter : (n : ℕ) (xs : List ℕ) → list_any (λ x. eqb x n) xs ≡ true → length (without n xs) < length xs
shorter n [] h = absurd (false≢true h)
shorter n (x ∷ xs) h =
    ⊎_elim (λ (same : eqb x n ≡ true). let most = no_longer n xs in rw same (omega arith))
    (λ (other : eqb x n ≡ false). let less = shorter n xs (rw other at h) in rw other (omega arith))
    (cases_Bool (eqb x n))

absent_before : (k n : ℕ) (xs : List ℕ) → k < n → Lacks k (without n xs) → Lacks k xs
absent_before k n [] low h = tt
absent_before k n (x ∷ xs) low h =
    ⊎_elim (λ (same : eqb x n ≡ true).
    let is = eqb-true x n same in
    (ne_eqb x k (λ e. omega (arith, is, e)), absent_before k n xs low (rw same at h)))
    (λ (other : eqb x n ≡ false).
    let parts = rw other at h in
    (parts.0, absent_before k n xs low parts.1))
    (cases_Bool (eqb x n))

record FreshNumber (n : ℕ) (xs : List ℕ) : Type 0 where
  k : ℕ
  low : k < n
  absent : Lacks k xs

fresh_number : (n : ℕ) (xs : List ℕ) → length xs < n → FreshNumber n xs
fresh_number zero xs h = absurd (omega arith)
fresh_number (suc n) xs h =
    ⊎_elim (λ (found : list_any (λ x. eqb x n) xs ≡ true).
    let less = shorter n xs found in
    let f = fresh_number n (without n xs) (omega arith) in
    let low = f.low in
    record { k = f.k; low = omega arith; absent = absent_before f.k n xs low f.absent })
    (λ (none : list_any (λ x. eqb x n) xs ≡ false). record { k = n; low = omega arith; absent = absent_from n xs none })
    (cases_Bool (list_any (λ x. eqb x n) xs))

-- 256 names of two letters, `aa` to `pp`
abbrev letters : ℕ → Word
letters k = (97 + k / 16) ∷ (97 + k % 16) ∷ []

abbrev code : Word → ℕ
code [] = 0
code (c ∷ []) = 0
code (c ∷ d ∷ rest) = (c - 97) * 16 + (d - 97)

code-letters : (k : ℕ) → code (letters k) ≡ k
code-letters k = omega (arith, div-add-mod k 16)

two_letters : (i j : ℕ) → i < 16 → j < 16 → is_name ((97 + i) ∷ (97 + j) ∷ []) ≡ true
unfolding is_name
two_letters i j first second = grind (arith, nat_tests)

letters_name : (k : ℕ) → k < 256 → is_name (letters k) ≡ true
letters_name k low =
    let second : k % 16 < 16 = mod-lt k (omega arith) in
    let first : k / 16 < 16 = omega (arith, div-add-mod k 16) in
    two_letters (k / 16) (k % 16) first second

unplaced : (w : Word) (aggregates : List Definition) → Lacks (code w) (map (λ a. code a.name) aggregates) → position_or_len (λ a. bytes_eq a.name w) aggregates ≡ length aggregates
unplaced w [] h = refl
unplaced w (a ∷ rest) h =
    ⊎_elim (λ (same : bytes_eq a.name w ≡ true). absurd (false≢true (sym h.0 ∙ ap (λ x. eqb (code x) (code w)) ((bytes_eq-Decides a.name w).0 same) ∙ eqb_self (code w))))
    (λ (other : bytes_eq a.name w ≡ false). rw other (omega (arith, unplaced w rest h.1)))
    (cases_Bool (bytes_eq a.name w))
  where
    eqb_self : (n : ℕ) → eqb n n ≡ true
    eqb_self n = grind (arith, nat_tests)

-- a name that no aggregate has
pub record FreshName (aggregates : List Definition) : Type 0 where
  pub name : Word
  pub named : is_name name ≡ true
  pub unused : place_of aggregates name ≡ None

pub fresh_name : (aggregates : List Definition) → length aggregates < 256 → FreshName aggregates
fresh_name aggregates few =
    let codes : List ℕ = map (λ (a : Definition). code a.name) aggregates in
    let f = fresh_number 256 codes (omega (arith, length-map aggregates (λ (a : Definition). code a.name))) in
    let P : ℕ → Type 0 = λ n. Lacks n codes in
    let at = unplaced (letters f.k) aggregates (subst P (sym (code-letters f.k)) f.absent) in
    record { name = letters f.k; named = letters_name f.k f.low; unused = rw (at, le-ltb (length aggregates) (length aggregates) (omega arith)) refl }
