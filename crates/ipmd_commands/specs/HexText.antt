-- Octets as hexadecimal text.
use Rattle.std.specs.Prelude.{◌≡◌, ◌⊎◌, ℕ, List, [], ◌∷◌, ◌++◌, take, Bool, true, false, if◌then◌else◌, Option, Ok, IsErr}
use Rattle.std.specs.List.{filter, flat_map}
use Rattle.std.specs.Char.{is_ascii_whitespace}
use Rattle.std.specs.Io.KnownBytes.{Appends, Keeps}
use Rattle.hex.specs.Hex.{decode_of, encode_lower}
use Rattle.ipfix_message.specs.declared.fault.Fault.{Fault as DecodeError}
use Rattle.ipfix_message.specs.Framing.{IsFramed}

abbrev pub is_no_white_space : ℕ → Bool
is_no_white_space octet = (if is_ascii_whitespace octet then false else true)

-- these octets are what the text spells, white space skipped
abbrev pub SpelledBy : List ℕ → List ℕ → Type 0
SpelledBy text octets = decode_of (filter is_no_white_space text) ≡ Ok octets

-- the text spells no octets: a digit is missing, or something else stands there
abbrev pub SpellsNothing : List ℕ → Type 0
SpellsNothing text = IsErr (decode_of (filter is_no_white_space text))

-- a message as a line: its digits in lower case, and a line feed (10)
abbrev pub hex_line : List ℕ → List ℕ
hex_line message = encode_lower message ++ 10 ∷ []

abbrev pub hex_lines : List (List ℕ) → List ℕ
hex_lines messages = flat_map hex_line messages

-- the whole messages of a stream, one directly after another (RFC 7011, section 3.1)
abbrev pub AreMessagesOf : List ℕ → List (List ℕ) → Type 0
AreMessagesOf stream messages = (fault : Option DecodeError) × (pending : List ℕ) × IsFramed stream messages fault pending

-- a front of these octets was written, or all of them
abbrev pub WritesSomeOf : List ℕ → Option (List ℕ) → Option (List ℕ) → Type 0
WritesSomeOf due held holds = (n : ℕ) × Appends held holds (take n due)

-- a front of the lines of a stream's messages was written, or all of them
pub record BeginsLines (stream : List ℕ) (held holds : Option (List ℕ)) : Type 0 where
  pub messages : List (List ℕ)
  pub cut : AreMessagesOf stream messages
  pub written : WritesSomeOf (hex_lines messages) held holds

-- the same, or nothing
abbrev pub WritesSomeLines : List ℕ → Option (List ℕ) → Option (List ℕ) → Type 0
WritesSomeLines stream held holds = Keeps held holds ⊎ BeginsLines stream held holds

-- each message of a stream was written as a line
pub record WritesLines (stream : List ℕ) (held holds : Option (List ℕ)) : Type 0 where
  pub messages : List (List ℕ)
  pub cut : AreMessagesOf stream messages
  pub written : Appends held holds (hex_lines messages)
