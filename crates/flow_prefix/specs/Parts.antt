-- The parts of an address, seen by how many they are and which number they make.
use Rattle.std.specs.Prelude.{ℕ, ◌+◌, ◌^◌, ◌<◌, ◌≤◌, List, length, Option, Some, None, nat_le, if◌then◌else◌}
use Rattle.std.specs.Int.Digits.{number_from_digits_after}
use Rattle.flow_prefix.specs.declared.family.Family.{Family}
use Rattle.flow_prefix.specs.declared.parts.Parts.{Parts}
use Rattle.flow_prefix.specs.Family.{places, base}

-- no more parts than the family has, and a number of as many digits
pub record FitsFamily (family : Family) (parts : Parts) : Type 0 where
  pub room : parts.count ≤ places family
  pub below : parts.value < base family ^ parts.count

-- these parts after those before, if the family has room for them all
unfoldable pub added_parts : Family → Parts → Option (List ℕ) → Option Parts
added_parts family front None = None
added_parts family front (Some parts) =
    if nat_le (front.count + length parts) (places family)
    then Some (record { count = front.count + length parts; value = number_from_digits_after (base family) front.value parts })
    else None

-- how many the parts are, and their number
abbrev pub counted_parts : Family → Option (List ℕ) → Option Parts
counted_parts family parts = added_parts family (record { count = 0; value = 0 }) parts
