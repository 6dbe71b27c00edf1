-- Arguments: numbers are texts, and words have no space.
use Rattle.std.proofs.Common.{◌≡◌, ℕ, ◌<◌, ◌^◌, true, not, eqb, List, [], ◌∷◌, Option, Some, None, refl, sym, subst, arith}
use Rattle.std.specs.List.{list_all}
use Rattle.std.specs.Char.{digit_value, is_digit}
use Rattle.std.specs.Str.{IsUtf8}
use Rattle.std.specs.Fmt.{decimal}
use Rattle.std.proofs.lemmas.Bool.{and_parts, not-true, ltb-true}
use Rattle.std.proofs.lemmas.Fmt.{decimal_is_IsNumeral}
use Rattle.std.proofs.lemmas.Str.{IsUtf8-from_ascii}
use Rattle.std.proofs.lemmas.Str.Parse.{digit_from_value}
use Rattle.sequences.proofs.ListLaws.{Lacks}
use Rattle.numerals.specs.Numerals.{number_of}
use Rattle.numerals.proofs.NumeralLaws.{number_of-found, test_from_AllDigits}
use Rattle.policy_text.proofs.NameLaws.{ascii_by}

-- ---- numbers

digit_low : (c : ℕ) → is_digit c 10 ≡ true → c < 128
digit_low c h =
    let range = digit_from_value c (ltb-true (digit_value c) 10 h) in
    omega (arith, range.0, range.1)

decimal_text : (n : ℕ) → n < 2 ^ 64 → IsUtf8 (decimal n)
decimal_text n small =
    let digits = test_from_AllDigits 10 (decimal n) (decimal_is_IsNumeral n small).0.1 in
    IsUtf8-from_ascii (decimal n) (ascii_by (λ c. is_digit c 10) digit_low (decimal n) digits)

-- what is no text is no number
pub number_of-text : (most : ℕ) (argument : List ℕ) → most < 2 ^ 64 → (IsUtf8 argument → ⊥) → number_of most argument ≡ None
number_of-text most argument small none = by_answer (number_of most argument) refl
  where
    by_answer : (o : Option ℕ) → number_of most argument ≡ o → o ≡ None
    by_answer None e = refl
    by_answer (Some n) e =
        let number = number_of-found most argument n small e in
        let bound = number.bound in
        let P : List ℕ → Type 0 = λ t. IsUtf8 t in
        absurd (none (subst P (sym number.text) (decimal_text n (omega (arith, bound, small)))))

-- ---- words

pub lacks_from_test : (octets : List ℕ) → list_all (λ c. not (eqb c 32)) octets ≡ true → Lacks 32 octets
lacks_from_test [] h = tt
lacks_from_test (c ∷ cs) h =
    let both = and_parts (not (eqb c 32)) (list_all (λ x. not (eqb x 32)) cs) h in
    (not-true (eqb c 32) both.0, lacks_from_test cs both.1)

pub test_from_lacks : (octets : List ℕ) → Lacks 32 octets → list_all (λ c. not (eqb c 32)) octets ≡ true
test_from_lacks [] h = refl
test_from_lacks (c ∷ cs) h = let rest = test_from_lacks cs h.1 in rw (h.0, rest) refl
