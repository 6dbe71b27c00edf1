-- Words that are numbers.
use Rattle.std.specs.Prelude.{◌≡◌, ℕ, ◌≤◌, Bool, ◌&&◌, ◌==◌, List, length, Option, Some, None, nat_lt, nat_le, if◌then◌else◌, slice_index}
use Rattle.std.specs.List.{list_all}
use Rattle.std.specs.Char.{is_digit}
use Rattle.std.specs.Fmt.{decimal}
use Rattle.std.specs.Str.Parse.{digits_value}

-- the word is a number from 0 to most, decimal without leading zeros
pub record IsNumber (most : ℕ) (word : List ℕ) (n : ℕ) : Type 0 where
  pub bound : n ≤ most
  pub text : word ≡ decimal n

-- digits in the radix, at least one
abbrev pub are_digits : ℕ → List ℕ → Bool
are_digits radix word = nat_lt 0 (length word) && list_all (λ c. is_digit c radix) word

-- the number that the digits write, from 0 to most
unfoldable pub digits_number : ℕ → ℕ → List ℕ → Option ℕ
digits_number radix most word =
    if are_digits radix word && nat_le (digits_value radix word) most then Some (digits_value radix word) else None

-- a zero before other digits
abbrev pub has_leading_zero : List ℕ → Bool
has_leading_zero word = nat_lt 1 (length word) && slice_index word 0 == 48

-- a number from 0 to most, decimal without leading zeros
unfoldable pub number_of : ℕ → List ℕ → Option ℕ
number_of most word = if has_leading_zero word then None else digits_number 10 most word
