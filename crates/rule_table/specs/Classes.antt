-- The classes of a record's addresses: two addresses of one class are inside the same prefixes.
use Rattle.std.specs.Prelude.{ℕ, ◌+◌, ◌*◌, ◌^◌, ◌==◌, List, length, map, Option, Some, None, nat_lt, if◌then◌else◌}
use Rattle.std.specs.List.{fold, count_by}
use Rattle.sequences.specs.Octets.{be_value}
use Rattle.ipfix_template.specs.declared.field.FieldSpec.{FieldSpec}
use Rattle.policy_judge.specs.declared.occurrences.Side.{Side}
use Rattle.policy_judge.specs.Sides.{is_of}

-- how many cuts are below an address
abbrev pub class_of : List ℕ → ℕ → ℕ
class_of cuts address = count_by (λ cut. nat_lt cut address) cuts

-- the class of a value, odd for 4 octets and even for 16; 0 for a value that is no address
unfoldable pub digit_of : List ℕ → List ℕ → ℕ
digit_of cuts octets =
    if length octets == 4 then 2 * class_of cuts (be_value octets) + 1
    else if length octets == 16 then 2 * class_of cuts (be_value octets) + 2
    else 0

-- a key with one digit of 16 bits more, if it has fewer than three behind its leading 1
abbrev pub with_digit : Option ℕ → ℕ → Option ℕ
with_digit None digit = None
with_digit (Some key) digit = if nat_lt key (2 ^ 48) then Some (key * 65536 + digit) else None

-- a 1, and then the digit of each value
abbrev pub class_key : List ℕ → List (List ℕ) → Option ℕ
class_key cuts values = fold with_digit (Some 1) (map (digit_of cuts) values)

-- the digit of a field, if it is of this side
abbrev pub with_field : List ℕ → Side → Option ℕ → FieldSpec × List ℕ → Option ℕ
with_field cuts side key field = if is_of side field.0.element then with_digit key (digit_of cuts field.1) else key
