-- Which values are inside a prefix.
use Rattle.std.specs.Prelude.{◌≡◌, ℕ, Bool, ◌==◌, ◌&&◌, List, length, Ok}
use Rattle.flow_prefix.specs.declared.prefix.Prefix.{Prefix}
use Rattle.flow_prefix.specs.declared.prefix.Prefix.TheVariants.{V4, V6}
use Rattle.sequences.specs.Octets.{be_value}
use Rattle.flow_prefix.specs.Net.{IsNet, is_inside}
use Rattle.flow_prefix.specs.Reading.{prefix_of}
use Rattle.flow_prefix.specs.Printing.{prefix_text}

-- what each Prefix of the program is
abbrev pub IsPrefix : Prefix → Type 0
IsPrefix (V4 net) = IsNet 32 net.address net.length
IsPrefix (V6 net) = IsNet 128 net.address net.length

-- a value of the other family is outside
abbrev pub contains : Prefix → List ℕ → Bool
contains (V4 net) octets = length octets == 4 && is_inside 32 net (be_value octets)
contains (V6 net) octets = length octets == 16 && is_inside 128 net (be_value octets)

-- what is printed is read back
abbrev pub PrefixesReadBack : Type 0
PrefixesReadBack = (prefix : Prefix) → IsPrefix prefix → prefix_of (prefix_text prefix) ≡ Ok prefix
