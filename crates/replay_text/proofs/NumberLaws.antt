-- A word that parses as a number of 64 bits, against the number that it is as printed.
use Rattle.std.proofs.Common.{◌≡◌, ◌≢◌, ℕ, ◌<◌, ◌^◌, Bool, true, false, cond, List, [], ◌∷◌, get_or, drop, Option, Some, None, Result, Ok, Err, refl, sym, ap, ◌∙◌, arith, subst, leb, ⊎_elim}
use Rattle.std.specs.Result.{result_ok}
use Rattle.std.specs.Str.Parse.{ParsesUnsigned, without_leading_plus, digits_value, IsNumeral}
use Rattle.std.specs.Char.{digit_value}
use Rattle.std.proofs.lemmas.Bool.{ne_eqb, leb-true, leb-false, cases_Bool}
use Rattle.std.proofs.lemmas.Option.{none-some}
use Rattle.numerals.specs.Numerals.{number_of, digits_number, has_leading_zero}
use Rattle.numerals.proofs.NumeralLaws.{digits_number-found, digits_number-only}

-- what was parsed, where it is at most so much
abbrev pub within : ℕ → Option ℕ → Option ℕ
within most None = None
within most (Some n) = cond (leb n most) (Some n) None

none_if : (o : Option ℕ) → ((n : ℕ) → o ≡ Some n → ⊥) → None ≡ o
none_if None h = refl
none_if (Some n) h = absurd (h n refl)

same_some : (a b : ℕ) → Some a ≡ Some b → a ≡ b
same_some a b e = cc

-- nothing is read where the digits write more
by_bound : (most : ℕ) (word : List ℕ) (n : ℕ) (b : Bool) → leb n most ≡ b → IsNumeral 10 word → digits_value 10 word ≡ n → cond b (Some n) None ≡ digits_number 10 most word
by_bound most word n true fits numeral value =
    sym (digits_number-only 10 most word n (record { numeral = numeral; bound = leb-true n most fits; value = value }))
by_bound most word n false above numeral value =
    none_if (digits_number 10 most word) (λ m found.
    let read = digits_number-found 10 most word m found in
    let bound = read.bound in
    let same = read.value in
    let over = leb-false n most above in
    omega (arith, bound, same, over, value))

by_digits : {E : Type 0} (most : ℕ) (word : List ℕ) (r : Result ℕ E) → most < 2 ^ 64 → (read : ParsesUnsigned 64 10 word r) → without_leading_plus word ≡ word → within most (result_ok r) ≡ digits_number 10 most word
by_digits most word (Ok n) small read e =
    let numeral = subst (λ w. IsNumeral 10 w) e read.0.0 in
    by_bound most word n (leb n most) refl numeral (ap (digits_value 10) (sym e) ∙ sym read.1)
by_digits most word (Err x) small read e =
    none_if (digits_number 10 most word) (λ m found.
    let parsed = digits_number-found 10 most word m found in
    let bound = parsed.bound in
    let value = ap (digits_value 10) e ∙ parsed.value in
    read (subst (λ w. IsNumeral 10 w) (sym e) parsed.numeral, omega (arith, bound, value, small)))

drop_none : (word : List ℕ) → drop 0 word ≡ word
drop_none [] = refl
drop_none (c ∷ cs) = refl

no_plus : (word : List ℕ) → get_or word 0 0 ≢ 43 → without_leading_plus word ≡ word
no_plus word other = rw (ne_eqb (get_or word 0 0) 43 other) (drop_none word)

plain_number : (most : ℕ) (word : List ℕ) → has_leading_zero word ≡ false → number_of most word ≡ digits_number 10 most word
unfolding number_of
plain_number most word plain = rw plain refl

-- no zero before other digits, and no plus before them
abbrev pub IsPlain : List ℕ → Type 0
IsPlain word = (has_leading_zero word ≡ false) × (get_or word 0 0 ≢ 43)

number_by_parse : {E : Type 0} (most : ℕ) (word : List ℕ) (r : Result ℕ E) → most < 2 ^ 64 → IsPlain word → ParsesUnsigned 64 10 word r → within most (result_ok r) ≡ number_of most word
number_by_parse most word r small plain read = by_digits most word r small read (no_plus word plain.1) ∙ sym (plain_number most word plain.0)

-- the same where the result is known
pub number_by_value : {E : Type 0} (most : ℕ) (word : List ℕ) (r : Result ℕ E) (o : Option ℕ) → most < 2 ^ 64 → IsPlain word → ParsesUnsigned 64 10 word r → o ≡ result_ok r
    → within most o ≡ number_of most word
number_by_value most word r o small plain read e = ap (within most) e ∙ number_by_parse most word r small plain read

pub no_number_after_zero : (most : ℕ) (word : List ℕ) → has_leading_zero word ≡ true → number_of most word ≡ None
unfolding number_of
no_number_after_zero most word e = rw e refl

no_plus_digit : (word : List ℕ) → get_or word 0 0 ≡ 43 → IsNumeral 10 word → ⊥
no_plus_digit [] e numeral = omega (arith, numeral.0)
no_plus_digit (c ∷ cs) e numeral =
    let wide : digit_value c ≡ 36 = ap digit_value e in
    omega (arith, wide, numeral.1.0)

pub no_number_after_plus : (most : ℕ) (word : List ℕ) → get_or word 0 0 ≡ 43 → number_of most word ≡ None
no_number_after_plus most word e =
    sym (none_if (number_of most word) (λ n found. ⊎_elim (λ (leading : has_leading_zero word ≡ true). absurd (none-some n (sym (no_number_after_zero most word leading) ∙ found)))
    (λ (plain : has_leading_zero word ≡ false). no_plus_digit word e (digits_number-found 10 most word n (sym (plain_number most word plain) ∙ found)).numeral)
    (cases_Bool (has_leading_zero word))))
