-- Digits read one by one, and numerals against the text that is printed of a number.
use Rattle.std.proofs.Common.{◌≡◌, ℕ, ◌+◌, ◌*◌, ◌^◌, ◌<◌, ◌≤◌, Bool, true, false, ◌&&◌, cond, List, [], ◌∷◌, length, get_or, drop, Option, Some, None, IfSome, refl, sym, ap, ◌∙◌, arith, nat_le, if◌then◌else◌, ⊎_elim, eqb, ltb, leb}
use Rattle.std.specs.List.{list_all}
use Rattle.std.specs.Char.{is_digit, digit_value}
use Rattle.std.specs.Str.Parse.{digits_value, digits_value_after, AllDigits}
use Rattle.std.specs.Str.Parse.{IsNumeral}
use Rattle.std.specs.Fmt.{decimal}
use Rattle.std.proofs.lemmas.Str.Parse.{IsNumeralModel}
use Rattle.std.proofs.lemmas.Fmt.{decimal-digits_value, decimal_is_IsNumeral, decimal_digit, first_decimal}
use Rattle.std.proofs.lemmas.Option.{cond_some, none-some}
use Rattle.std.proofs.lemmas.Bool.{lt-ltb, le-ltb, le-leb, lt-leb, and_parts, and_from, and_right, and_cases, cases_Bool, ltb-true, ltb-false, leb-true, eqb-false, ne_eqb, cases_eq}
use Rattle.std.proofs.lemmas.List.{drop_more}
use Rattle.std.proofs.Math.Nat.{mul-le-mul_left}
use Rattle.numerals.specs.Numerals.{digits_number, number_of, are_digits, has_leading_zero, IsNumber}

-- the number that digits write after those of n, from 0 to most
unfoldable pub digits_from : ℕ → ℕ → ℕ → List ℕ → Option ℕ
digits_from radix most n ds =
    if list_all (λ c. is_digit c radix) ds && nat_le (digits_value_after radix n ds) most then Some (digits_value_after radix n ds) else None

pub digits_from-nil : (radix most n : ℕ) → n ≤ most → digits_from radix most n [] ≡ Some n
unfolding digits_from
digits_from-nil radix most n h = rw (le-leb n most h) refl

pub digits_from-digit : (radix most n c : ℕ) (ds : List ℕ) → digit_value c < radix → digits_from radix most n (c ∷ ds) ≡ digits_from radix most (n * radix + digit_value c) ds
unfolding digits_from
digits_from-digit radix most n c ds h = rw (lt-ltb (digit_value c) radix h) refl

pub digits_from-other : (radix most n c : ℕ) (ds : List ℕ) → radix ≤ digit_value c → digits_from radix most n (c ∷ ds) ≡ None
unfolding digits_from
digits_from-other radix most n c ds h = rw (le-ltb (digit_value c) radix h) refl

-- more digits make no smaller number
digits_value_after-grows : (radix n : ℕ) (ds : List ℕ) → 0 < radix → n ≤ digits_value_after radix n ds
digits_value_after-grows radix n [] h = omega arith
digits_value_after-grows radix n (c ∷ cs) h =
    let rest = digits_value_after-grows radix (n * radix + digit_value c) cs h in
    let up : n * 1 ≤ n * radix = mul-le-mul_left n (omega arith) in
    omega (arith, rest, up)

and-none : (a : Bool) (n : ℕ) → cond (a && false) (Some n) None ≡ None
and-none true n = refl
and-none false n = refl

pub digits_from-above : (radix most n : ℕ) (ds : List ℕ) → 0 < radix → most < n → digits_from radix most n ds ≡ None
unfolding digits_from
digits_from-above radix most n ds positive above =
    let grows = digits_value_after-grows radix n ds positive in
    rw (lt-leb (digits_value_after radix n ds) most (omega (arith, grows))) (and-none (list_all (λ c. is_digit c radix) ds) (digits_value_after radix n ds))

pub digits_number-empty : (radix most : ℕ) (word : List ℕ) → length word ≡ 0 → digits_number radix most word ≡ None
unfolding digits_number
digits_number-empty radix most word h = rw (le-ltb 0 (length word) (omega arith)) refl

pub digits_number-from : (radix most : ℕ) (word : List ℕ) → 0 < length word → digits_number radix most word ≡ digits_from radix most 0 word
unfolding digits_number digits_from
digits_number-from radix most word h = rw (lt-ltb 0 (length word) h) refl

-- a turn of the loop at a digit
pub digits_from-more : (radix most n i c : ℕ) (word : List ℕ) → i < length word → c ≡ get_or word i 0 → digit_value c < radix → digits_from radix most n (drop i word) ≡ digits_from radix most (n * radix + digit_value c) (drop (i + 1) word)
digits_from-more radix most n i c word h e small =
    ap (digits_from radix most n) (drop_more word i 0 h ∙ ap (λ d. d ∷ drop (i + 1) word) (sym e)) ∙ digits_from-digit radix most n c (drop (i + 1) word) small

-- and at another character
pub digits_from-stop : (radix most n i c : ℕ) (word : List ℕ) → i < length word → c ≡ get_or word i 0 → radix ≤ digit_value c → digits_from radix most n (drop i word) ≡ None
digits_from-stop radix most n i c word h e large =
    ap (digits_from radix most n) (drop_more word i 0 h ∙ ap (λ d. d ∷ drop (i + 1) word) (sym e)) ∙ digits_from-other radix most n c (drop (i + 1) word) large

-- a digit more fits a number of 64 bits
pub digit_fits_number : (value most radix digit : ℕ) → value ≤ most → most < 2 ^ 32 → radix ≤ 36 → digit < radix → value * radix + digit < 2 ^ 64
digit_fits_number value most radix digit a b c d =
    let up : value * radix ≤ value * 36 = mul-le-mul_left value c in
    omega (arith, up)

-- digits by test and by fact
pub AllDigits-from_test : (radix : ℕ) (ds : List ℕ) → list_all (λ c. is_digit c radix) ds ≡ true → AllDigits radix ds
AllDigits-from_test radix [] h = tt
AllDigits-from_test radix (c ∷ cs) h =
    let both = and_parts (is_digit c radix) (list_all (λ d. is_digit d radix) cs) h in
    (ltb-true (digit_value c) radix both.0, AllDigits-from_test radix cs both.1)

pub test_from_AllDigits : (radix : ℕ) (ds : List ℕ) → AllDigits radix ds → list_all (λ c. is_digit c radix) ds ≡ true
test_from_AllDigits radix [] h = refl
test_from_AllDigits radix (c ∷ cs) h =
    and_from (is_digit c radix) (list_all (λ d. is_digit d radix) cs) (lt-ltb (digit_value c) radix h.0) (test_from_AllDigits radix cs h.1)

-- what a number that was read says of the word
pub record Reads (radix most : ℕ) (word : List ℕ) (n : ℕ) : Type 0 where
  pub numeral : IsNumeral radix word
  pub bound : n ≤ most
  pub value : digits_value radix word ≡ n

pub digits_number-found : (radix most : ℕ) (word : List ℕ) (n : ℕ) → digits_number radix most word ≡ Some n → Reads radix most word n
unfolding digits_number
digits_number-found radix most word n e =
    let chosen = cond_some (are_digits radix word && leb (digits_value radix word) most) (digits_value radix word) n e in
    let tests = and_parts (are_digits radix word) (leb (digits_value radix word) most) chosen.0 in
    let digits = and_parts (ltb 0 (length word)) (list_all (λ c. is_digit c radix) word) tests.0 in
    let bound = leb-true (digits_value radix word) most tests.1 in
    record {
      numeral = (ltb-true 0 (length word) digits.0, AllDigits-from_test radix word digits.1);
      bound = omega (arith, bound, chosen.1);
      value = chosen.1;
    }

pub digits_number-only : (radix most : ℕ) (word : List ℕ) (n : ℕ) → Reads radix most word n → digits_number radix most word ≡ Some n
unfolding digits_number
digits_number-only radix most word n h =
    let some = lt-ltb 0 (length word) h.numeral.0 in
    let digits = test_from_AllDigits radix word h.numeral.1 in
    let value = h.value in
    let bound = le-leb n most h.bound in
    rw (some, digits, value, bound) refl

own : IsNumeralModel (AllDigits 10) (digits_value 10)
own = record { to = λ ds h. h; from = λ ds h. h; same = λ ds h. refl }

no_zero : (word : List ℕ) → has_leading_zero word ≡ false → get_or word 0 0 ≡ 48 → 0 < length word → length word ≡ 1
no_zero word none zero_first some =
    ⊎_elim (λ (short : ltb 1 (length word) ≡ false). omega (arith, ltb-false 1 (length word) short))
    (λ (other : eqb (get_or word 0 0) 48 ≡ false). absurd (eqb-false (get_or word 0 0) 48 other zero_first))
    (and_cases (ltb 1 (length word)) (eqb (get_or word 0 0) 48) none)

pub number_of-found : (most : ℕ) (word : List ℕ) (n : ℕ) → most < 2 ^ 64 → number_of most word ≡ Some n → IsNumber most word n
unfolding number_of
number_of-found most word n small e =
    ⊎_elim (λ (leading : has_leading_zero word ≡ true). absurd (none-some n (rw leading at e)))
    (λ (plain : has_leading_zero word ≡ false).
    let read = digits_number-found 10 most word n (rw plain at e) in
    let bound = read.bound in
    let value = read.value in
    let text = decimal-digits_value own word read.numeral.1 read.numeral.0 (λ z. no_zero word plain z read.numeral.0) (omega arith) in
    record { bound = bound; text = sym text ∙ ap decimal value })
    (cases_Bool (has_leading_zero word))

decimal_plain : (n : ℕ) → n < 2 ^ 64 → has_leading_zero (decimal n) ≡ false
decimal_plain n small =
    ⊎_elim (λ (z : n ≡ 0).
    let text : decimal n ≡ 48 ∷ [] = ap decimal z ∙ decimal_digit 0 (omega arith) in
    rw text refl)
    (λ (positive : n ≡ 0 → ⊥).
    let first = first_decimal n (omega (arith, positive)) small in
    and_right (ltb 1 (length (decimal n))) (eqb (get_or (decimal n) 0 0) 48) (ne_eqb (get_or (decimal n) 0 0) 48 (λ e. omega (arith, e, first))))
    (cases_eq n 0)

pub number_of-only : (most : ℕ) (word : List ℕ) (n : ℕ) → most < 2 ^ 64 → IsNumber most word n → number_of most word ≡ Some n
unfolding number_of
number_of-only most word n small h =
    let bound = h.bound in
    let text = h.text in
    let plain = decimal_plain n (omega arith) in
    let numeral = decimal_is_IsNumeral n (omega arith) in
    rw (text, plain) (digits_number-only 10 most (decimal n) n (record { numeral = numeral.0; bound = bound; value = numeral.1 }))

pub if_found : (most : ℕ) (word : List ℕ) (r : Option ℕ) → most < 2 ^ 64 → r ≡ number_of most word → IfSome r (λ n. IsNumber most word n)
if_found most word None small e = tt
if_found most word (Some n) small e = number_of-found most word n small (sym e)

pub if_bounded : (radix most : ℕ) (word : List ℕ) (r : Option ℕ) → r ≡ digits_number radix most word → IfSome r (λ n. n < most + 1)
if_bounded radix most word None e = tt
if_bounded radix most word (Some n) e = let bound = (digits_number-found radix most word n (sym e)).bound in omega arith
