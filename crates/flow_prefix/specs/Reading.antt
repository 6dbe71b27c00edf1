-- Reading a prefix, with the first fault that stands, in this project's own order: the text, then the length, then the host bits.
use Rattle.std.specs.Prelude.{ℕ, ◌+◌, ◌-◌, List, [], ◌∷◌, ◌++◌, length, Option, Some, None, Result, Ok, Err, nat_lt, ◌==◌, ◌&&◌, if◌then◌else◌, replicate, position, take, drop}
use Rattle.std.specs.List.{slice_split}
use Rattle.std.specs.Int.Digits.{number_from_digits}
use Rattle.sequences.specs.Options.{◌>>=◌}
use Rattle.flow_prefix.specs.declared.family.Family.{Family}
use Rattle.flow_prefix.specs.declared.family.Family.TheVariants.{Ipv4, Ipv6}
use Rattle.flow_prefix.specs.declared.fault.Fault.{Fault}
use Rattle.flow_prefix.specs.declared.fault.Fault.TheVariants.{BadText, BadLength, HostBits}
use Rattle.flow_prefix.specs.declared.prefix.Prefix.{Prefix}
use Rattle.flow_prefix.specs.declared.prefix.Prefix.TheVariants.{V4, V6}
use Rattle.flow_prefix.specs.Bits.{truncated}
use Rattle.flow_prefix.specs.Family.{width, places, base, separator}
use Rattle.flow_prefix.specs.Net.{Net}
use Rattle.numerals.specs.Numerals.{number_of, digits_number}

-- what stands before the first such byte, and behind it
unfoldable pub cut_at : ℕ → List ℕ → Option (List ℕ × List ℕ)
cut_at byte text = position (λ c. c == byte) text >>= λ i. Some (take i text, drop (i + 1) text)

-- a part of an address
unfoldable pub part_of : Family → List ℕ → Option ℕ
part_of Ipv4 word = number_of 255 word
part_of Ipv6 word = if nat_lt 4 (length word) then None else digits_number 16 65535 word

-- each of the words, if each is a part
unfoldable pub each_part_of : Family → List (List ℕ) → Option (List ℕ)
each_part_of family [] = Some []
each_part_of family (word ∷ words) = do
  part ← part_of family word
  parts ← each_part_of family words
  Some (part ∷ parts)

-- parts with the separator between
unfoldable pub parts_of : Family → List ℕ → Option (List ℕ)
parts_of family text = each_part_of family (slice_split (λ c. c == separator family) text)

-- groups, or none at all where nothing stands
unfoldable pub groups_of : List ℕ → Option (List ℕ)
groups_of [] = Some []
groups_of (c ∷ cs) = parts_of Ipv6 (c ∷ cs)

-- one octet more before the place
abbrev pub onto_left : ℕ → Option (List ℕ × List ℕ) → Option (List ℕ × List ℕ)
onto_left c None = None
onto_left c (Some x) = Some (c ∷ x.0, x.1)

-- what stands before the first `::`, and behind it
abbrev pub at_double : List ℕ → Option (List ℕ × List ℕ)
at_double [] = None
at_double (c ∷ []) = None
at_double (c ∷ d ∷ rest) = if c == 58 && d == 58 then Some ([], rest) else onto_left c (at_double (d ∷ rest))

-- the groups with zeros between, at least one
abbrev pub with_zeros : List ℕ → List ℕ → Option (List ℕ)
with_zeros left right =
    if nat_lt (length left + length right) 8
    then Some (left ++ replicate (8 - (length left + length right)) 0 ++ right) else None

abbrev pub shortened_of : List ℕ × List ℕ → Option (List ℕ)
shortened_of sides = do
  left ← groups_of sides.0
  right ← groups_of sides.1
  with_zeros left right

-- a list of as many parts as the family has
abbrev pub whole : Family → List ℕ → Option (List ℕ)
whole family parts = if length parts == places family then Some parts else None

abbrev pub long_or_short : List ℕ → Option (List ℕ × List ℕ) → Option (List ℕ)
long_or_short text None = parts_of Ipv6 text >>= whole Ipv6
long_or_short text (Some sides) = shortened_of sides

-- the parts of a whole address
unfoldable pub all_parts_of : Family → List ℕ → Option (List ℕ)
all_parts_of Ipv4 text = parts_of Ipv4 text >>= whole Ipv4
all_parts_of Ipv6 text = long_or_short text (at_double text)

-- the number that the parts make, the first the most significant
abbrev pub number_in : Family → Option (List ℕ) → Option ℕ
number_in family parts = parts >>= λ ps. Some (number_from_digits (base family) ps)

-- the number of an address all of whose parts are written
abbrev pub whole_number_of : Family → List ℕ → Option ℕ
whole_number_of family text = number_in family (parts_of family text >>= whole family)

unfoldable pub address_of : Family → List ℕ → Option ℕ
address_of family text = number_in family (all_parts_of family text)

abbrev pub prefix_in : Family → Net → Prefix
prefix_in Ipv4 net = V4 net
prefix_in Ipv6 net = V6 net

-- a prefix of this family, or the first fault that stands
unfoldable pub checked_prefix : Family → ℕ → ℕ → Result Prefix Fault
checked_prefix family address bits =
    if nat_lt (width family) bits then Err BadLength
    else if truncated (width family) bits address == address then Ok (prefix_in family (record { address = address; length = bits }))
    else Err HostBits

abbrev pub by_family : Option ℕ → Option ℕ → ℕ → Result Prefix Fault
by_family (Some address) v6 bits = checked_prefix Ipv4 address bits
by_family None (Some address) bits = checked_prefix Ipv6 address bits
by_family None None bits = Err BadText

abbrev pub with_bits : List ℕ → Option ℕ → Result Prefix Fault
with_bits address (Some bits) = by_family (address_of Ipv4 address) (address_of Ipv6 address) bits
with_bits address None = Err BadText

abbrev pub of_sides : Option (List ℕ × List ℕ) → Result Prefix Fault
of_sides None = Err BadText
of_sides (Some sides) = with_bits sides.0 (number_of 999 sides.1)

unfoldable pub prefix_of : List ℕ → Result Prefix Fault
prefix_of text = of_sides (cut_at 47 text)
