-- The text of a prefix: an address, `/`, and how many of its bits count (RFC 4291, sections 2.2 and 2.3, without its form with a
-- dotted tail). Decimal numbers without leading zeros, and no bit set past the length, are this project's own rule.
use Rattle.std.specs.Prelude.{◌≡◌, ◌≢◌, ◌⊎◌, ◌↔◌, ℕ, ◌<◌, ◌≤◌, List, ◌∷◌, ◌++◌, length, replicate, Result, Ok, Err, IfOk}
use Rattle.std.specs.List.{AllZip, join_with_byte}
use Rattle.std.specs.Fmt.{decimal}
use Rattle.std.specs.Str.Parse.{IsNumeral, digits_value}
use Rattle.std.specs.Int.Digits.{number_from_digits}
use Rattle.flow_prefix.specs.declared.family.Family.{Family}
use Rattle.flow_prefix.specs.declared.family.Family.TheVariants.{Ipv4, Ipv6}
use Rattle.flow_prefix.specs.declared.fault.Fault.{Fault}
use Rattle.flow_prefix.specs.declared.fault.Fault.TheVariants.{BadText, BadLength, HostBits}
use Rattle.flow_prefix.specs.declared.prefix.Prefix.{Prefix}
use Rattle.flow_prefix.specs.declared.prefix.Prefix.TheVariants.{V4, V6}
use Rattle.flow_prefix.specs.Family.{width, places, base, separator}
use Rattle.flow_prefix.specs.Bits.{truncated}
use Rattle.flow_prefix.specs.Net.{IsNet}
use Rattle.flow_prefix.specs.Reading.{prefix_of}

-- IPv4: a number from 0 to 255 without leading zeros. IPv6: 1 to 4 hexadecimal digits of either case
abbrev pub IsPart : Family → List ℕ → ℕ → Type 0
IsPart Ipv4 word n = (n < 256) × (word ≡ decimal n)
IsPart Ipv6 word n = IsNumeral 16 word × (length word ≤ 4) × (digits_value 16 word ≡ n)

-- the text is these parts, with the separator between
pub record AreParts (family : Family) (text : List ℕ) (parts : List ℕ) : Type 0 where
  pub words : List (List ℕ)
  pub each : AllZip (IsPart family) words parts
  pub joined : text ≡ join_with_byte (separator family) words

-- groups of IPv6, of which one `::` stands for one or more zeros
pub record AreShortened (text groups : List ℕ) : Type 0 where
  pub before : List ℕ
  pub after : List ℕ
  pub left : List ℕ
  pub right : List ℕ
  pub zeros : ℕ
  pub some : 0 < zeros
  pub before_is : AreParts Ipv6 before left
  pub after_is : AreParts Ipv6 after right
  pub text_is : text ≡ before ++ 58 ∷ 58 ∷ after
  pub groups_are : groups ≡ left ++ replicate zeros 0 ++ right

-- the text writes these parts; only IPv6 may shorten them
abbrev pub WritesParts : Family → List ℕ → List ℕ → Type 0
WritesParts Ipv4 text parts = AreParts Ipv4 text parts
WritesParts Ipv6 text parts = AreParts Ipv6 text parts ⊎ AreShortened text parts

-- the text is this address: as many parts as the family has, the most significant first
pub record IsAddress (family : Family) (text : List ℕ) (address : ℕ) : Type 0 where
  pub parts : List ℕ
  pub written : WritesParts family text parts
  pub all : length parts ≡ places family
  pub value : address ≡ number_from_digits (base family) parts

-- the text has the form of a prefix: an address, `/`, and a number of at most three digits
pub record IsPrefixForm (text : List ℕ) (family : Family) (address bits : ℕ) : Type 0 where
  pub front : List ℕ
  pub is_address : IsAddress family front address
  pub three_digits : bits < 1000
  pub text_is : text ≡ front ++ 47 ∷ decimal bits

-- the text is this prefix
abbrev pub IsPrefixText : List ℕ → Prefix → Type 0
IsPrefixText text (V4 net) = IsPrefixForm text Ipv4 net.address net.length × IsNet 32 net.address net.length
IsPrefixText text (V6 net) = IsPrefixForm text Ipv6 net.address net.length × IsNet 128 net.address net.length

-- no text of the form of a prefix
abbrev pub HasNoForm : List ℕ → Type 0
HasNoForm text = (family : Family) (address bits : ℕ) → IsPrefixForm text family address bits → ⊥

-- of the form, with more bits than an address of the family has
abbrev pub HasLongLength : List ℕ → Type 0
HasLongLength text = (family : Family) × (address : ℕ) × (bits : ℕ) × IsPrefixForm text family address bits × (width family < bits)

-- of the form, and of a good length, with a bit set past it
abbrev pub HasHostBits : List ℕ → Type 0
HasHostBits text = (family : Family) × (address : ℕ) × (bits : ℕ)
    × IsPrefixForm text family address bits × (bits ≤ width family) × (truncated (width family) bits address ≢ address)

-- what a text is read as: the prefix that it writes, or the first fault that stands
pub record IsReadAs (text : List ℕ) (answer : Result Prefix Fault) : Type 0 where
  pub exact : answer ≡ prefix_of text
  pub found : IfOk answer (IsPrefixText text)
  pub only : (prefix : Prefix) → IsPrefixText text prefix → answer ≡ Ok prefix
  pub bad_text : (answer ≡ Err BadText) ↔ HasNoForm text
  pub bad_length : (answer ≡ Err BadLength) ↔ HasLongLength text
  pub host_bits : (answer ≡ Err HostBits) ↔ HasHostBits text
