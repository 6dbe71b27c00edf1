-- The element that a word names.
use Rattle.std.specs.Prelude.{ℕ, Bool, ◌&&◌, nat_lt, List, [], ◌∷◌, Option, Some, None, if◌then◌else◌}
use Rattle.std.specs.List.{find}
use Rattle.std.specs.Str.{bytes_eq}
use Rattle.ipfix_element.specs.Element.{Element}
use Rattle.ipfix_element.specs.Registry.{Registered, registry}
use Rattle.ipfix_element.specs.Names.{element_name}
use Rattle.numerals.specs.Numerals.{number_of}
use Rattle.flow_prefix.specs.Reading.{cut_at}
use Rattle.sequences.specs.Options.{◌>>=◌}
use Rattle.policy_text.specs.Words.{Word}

-- the element, where this is its name
abbrev pub element_if_named : Word → Element → Option Element
element_if_named word e = if nat_lt e.number 32768 && bytes_eq (element_name e) word then Some e else None

abbrev pub element_at : Option ℕ → Word → Option Element
element_at pen word = number_of 32767 word >>= λ n. Some (record { pen = pen; number = n })

abbrev pub on_sides : Word → Option (List ℕ × List ℕ) → Option Element
on_sides numbers None = element_at None numbers
on_sides numbers (Some sides) = number_of 4294967295 sides.0 >>= λ pen. element_at (Some pen) sides.1

-- behind `e`
abbrev pub behind_e : Bool → Word → Option Element
behind_e b numbers = if b then on_sides numbers (cut_at 47 numbers) else None

-- `eN` and `ePEN/N`
abbrev pub numbered_of : Word → Option Element
numbered_of [] = None
numbered_of (c ∷ numbers) = behind_e (bytes_eq (c ∷ []) (101 ∷ [])) numbers

-- the registry's element of this name, or else the one of these numbers
abbrev pub listed_or : Option Registered → Word → Option Element
listed_or (Some line) word = Some (record { pen = None; number = line.number })
listed_or None word = numbered_of word

-- the element whose name the word is
unfoldable pub element_of : Word → Option Element
element_of word = listed_or (find (λ line. bytes_eq line.name word) registry) word >>= element_if_named word
