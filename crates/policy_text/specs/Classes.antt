-- What a word stands for, by its class, or its fault.
use Rattle.std.specs.Prelude.{ℕ, Bool, true, false, List, [], ◌∷◌, ◌++◌, length, Option, Some, None, Result, Ok, Err, nat_lt, nat_le, ◌==◌, ◌&&◌, not, if◌then◌else◌, position, is_some}
use Rattle.std.specs.List.{list_any, slice_split}
use Rattle.std.specs.Str.{bytes_eq}
use Rattle.ipfix_element.specs.Element.{Element}
use Rattle.ipfix_element.specs.declared.kind.Kind.{Kind}
use Rattle.ipfix_element.specs.declared.kind.Kind.TheVariants.{U8, U16, U32, U64, Ipv4, Ipv6, Mac, Seconds, Millis, Text, Octets}
use Rattle.ipfix_element.specs.Kinds.{kind_of}
use Rattle.flow_prefix.specs.declared.prefix.Prefix.{Prefix}
use Rattle.flow_prefix.specs.declared.fault.Fault.{Fault as PrefixFault}
use Rattle.numerals.specs.Numerals.{number_of}
use Rattle.flow_prefix.specs.Reading.{prefix_of}
use Rattle.sequences.specs.Results.{◌>>=◌}
use Rattle.policy_text.specs.declared.fault.FaultKind.{FaultKind}
use Rattle.policy_text.specs.declared.fault.FaultKind.TheVariants.{BadName, BadNumber, BadPrefix, BadTruncate, UnknownAggregate, DoubleAggregate, BadKey}
use Rattle.policy_text.specs.Words.{Word}
use Rattle.policy_text.specs.Naming.{is_name}
use Rattle.policy_text.specs.Elements.{element_of}
use Rattle.policy_text.specs.Policies.{Aggregate}
use Rattle.policy_text.specs.Results.{or_fault}

unfoldable pub name : Word → Result Word FaultKind
name word = if is_name word then Ok word else Err BadName

unfoldable pub number : ℕ → Word → Result ℕ FaultKind
number most word = or_fault BadNumber (number_of most word)

unfoldable pub element : Word → Result Element FaultKind
element word = or_fault BadName (element_of word)

abbrev pub prefix_or_fault : Result Prefix PrefixFault → Result Prefix FaultKind
prefix_or_fault (Ok p) = Ok p
prefix_or_fault (Err fault) = Err BadPrefix

unfoldable pub prefix : Word → Result Prefix FaultKind
prefix word = prefix_or_fault (prefix_of word)

abbrev pub star : Word
star = 42 ∷ []

abbrev pub some_of : {A : Type 0} → Result A FaultKind → Result (Option A) FaultKind
some_of (Ok a) = Ok (Some a)
some_of (Err kind) = Err kind

-- a word of the class, or `*`
unfoldable pub or_star : {A : Type 0} → (Word → Result A FaultKind) → Word → Result (Option A) FaultKind
or_star class word = if bytes_eq word star then Ok None else some_of (class word)

-- the kinds of key elements
abbrev pub is_key_kind : Kind → Bool
is_key_kind U8 = true
is_key_kind U16 = true
is_key_kind U32 = true
is_key_kind U64 = false
is_key_kind Ipv4 = true
is_key_kind Ipv6 = true
is_key_kind Mac = true
is_key_kind Seconds = false
is_key_kind Millis = false
is_key_kind Text = false
is_key_kind Octets = false

-- the bits that `truncate` may keep, of a kind
abbrev pub width_of_kind : Kind → Option ℕ
width_of_kind U8 = None
width_of_kind U16 = None
width_of_kind U32 = None
width_of_kind U64 = None
width_of_kind Ipv4 = Some 32
width_of_kind Ipv6 = Some 128
width_of_kind Mac = Some 48
width_of_kind Seconds = None
width_of_kind Millis = None
width_of_kind Text = None
width_of_kind Octets = None

-- the bits that `truncate` may keep, of a named element
unfoldable pub width_at : Option Element → Option ℕ
width_at None = None
width_at (Some e) = width_of_kind (kind_of e)

-- the kinds of elements whose values are times
abbrev pub is_time_kind : Kind → Bool
is_time_kind U8 = false
is_time_kind U16 = false
is_time_kind U32 = false
is_time_kind U64 = false
is_time_kind Ipv4 = false
is_time_kind Ipv6 = false
is_time_kind Mac = false
is_time_kind Seconds = true
is_time_kind Millis = true
is_time_kind Text = false
is_time_kind Octets = false

-- a named element whose values are times: what `degrade` is for
unfoldable pub is_time_at : Option Element → Bool
is_time_at None = false
is_time_at (Some e) = is_time_kind (kind_of e)

-- elements of a key have no enterprise number, so the number tells them apart
unfoldable pub with_key : List Element → Element → Result (List Element) FaultKind
with_key key e =
    if is_key_kind (kind_of e) && (not (list_any (λ k. k.number == e.number) key) && nat_lt (length key) 16)
    then Ok (key ++ e ∷ []) else Err BadKey

-- one piece of a key more
unfoldable pub add_piece : List Element → Word → Result (List Element) FaultKind
add_piece key piece = element piece >>= λ e. with_key key e

-- pieces from the left
unfoldable pub add_pieces : List Element → List Word → Result (List Element) FaultKind
add_pieces key [] = Ok key
add_pieces key (piece ∷ pieces) = add_piece key piece >>= λ more. add_pieces more pieces

-- element names with commas between
unfoldable pub key_of : Word → Result (List Element) FaultKind
key_of word = add_pieces [] (slice_split (λ c. c == 44) word)

-- the place of the aggregate that has this name
abbrev pub place_of : List Aggregate → Word → Option ℕ
place_of aggregates word = position (λ a. bytes_eq a.name word) aggregates

-- an aggregate that a line before defines
unfoldable pub aggregate_place : List Aggregate → Word → Result ℕ FaultKind
aggregate_place aggregates word = if is_name word then or_fault UnknownAggregate (place_of aggregates word) else Err BadName

-- a name that no line before defines
unfoldable pub new_name : List Aggregate → Word → Result Word FaultKind
new_name aggregates word =
    if is_name word then (if is_some (place_of aggregates word) then Err DoubleAggregate else Ok word) else Err BadName

-- 1 to 86400: the length of an interval, and to how many seconds times are degraded
unfoldable pub interval : Word → Result ℕ FaultKind
interval word = number 86400 word >>= λ seconds. if nat_lt seconds 1 then Err BadNumber else Ok seconds

unfoldable pub bits_within : ℕ → Word → Result ℕ FaultKind
bits_within width word = number 999 word >>= λ bits. if nat_le bits width then Ok bits else Err BadTruncate
