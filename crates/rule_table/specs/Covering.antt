-- The addresses of a side in order, and what a rule needs of them.
use Rattle.std.specs.Prelude.{◌≡◌, ℕ, Bool, true, false, List, length, Option, Some, None, nat_lt, if◌then◌else◌, ◌==◌, ◌&&◌}
use Rattle.std.specs.List.{filter_map, list_any, list_all}
use Rattle.std.specs.List.Sorted.{IsPermutation, IsNonDecreasing}
use Rattle.sequences.specs.Octets.{be_value}
use Rattle.flow_prefix.specs.Bits.{truncated}
use Rattle.policy_text.specs.declared.rule.Rule.{Rule}
use Rattle.policy_judge.specs.Match.{is_met, is_for, denies, are_inside}
use Rattle.rule_table.specs.declared.addresses.Address.{Address}

-- the number of an address of so many bits
abbrev pub number_at_width : ℕ → Address → Option ℕ
number_at_width width address = if address.width == width then Some address.number else None

-- the number that a value of so many octets writes
abbrev pub number_if : ℕ → List ℕ → Option ℕ
number_if octets value = if length value == octets then Some (be_value value) else None

abbrev pub numbers_of : ℕ → List (List ℕ) → List ℕ
numbers_of octets values = filter_map (number_if octets) values

-- how many values there are, and the numbers of those of 4 octets and of those of 16, ascending
pub record AreSortedNumbers (values : List (List ℕ)) (count : ℕ) (narrow wide : List ℕ) : Type 0 where
  pub counted : count ≡ length values
  pub each_narrow : IsPermutation (numbers_of 4 values) narrow
  pub narrow_ascending : IsNonDecreasing narrow
  pub each_wide : IsPermutation (numbers_of 16 values) wide
  pub wide_ascending : IsNonDecreasing wide

-- a number has the first bits of a prefix
abbrev pub has_first_bits : ℕ → ℕ → ℕ → ℕ → Bool
has_first_bits width bits address number = truncated width bits number == address

-- some number is inside, or else they are those of all values, of which there is one, and each is inside
abbrev pub are_in : Bool → ℕ → ℕ → ℕ → ℕ → List ℕ → Bool
are_in true count width bits address numbers = list_any (has_first_bits width bits address) numbers
are_in false count width bits address numbers = nat_lt 0 count && (length numbers == count && list_all (has_first_bits width bits address) numbers)

-- these sources and destinations are such as the prefixes need that a rule names
abbrev pub covers_by : List (List ℕ) → List (List ℕ) → Rule → Bool
covers_by from to rule = is_met (are_inside (denies rule.action) from) rule.from && is_met (are_inside (denies rule.action) to) rule.to

-- what a rule asks of a record with these, but for the element of a field
abbrev pub applies_by : List ℕ → ℕ → List (List ℕ) → List (List ℕ) → Rule → Bool
applies_by name domain from to rule = is_for name domain rule && covers_by from to rule
