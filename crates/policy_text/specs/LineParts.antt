-- What each word of a line is to be, and the kind of fault where it is not.
use Rattle.std.specs.Prelude.{◌≡◌, ◌⊎◌, ◌&&◌, ◌||◌, List, [], ◌∷◌, ◌++◌, map, if◌then◌else◌, is_some, codes, ◌==◌}
use Rattle.std.specs.List.{slice_split, fold}
use Rattle.std.specs.Str.{bytes_eq}
use Rattle.ipfix_element.specs.Element.{Element, IsElement}
use Rattle.ipfix_element.specs.Names.{element_name}
use Rattle.numerals.specs.Numerals.{number_of}
use Rattle.policy_text.specs.declared.fault.FaultKind.{FaultKind}
use Rattle.policy_text.specs.declared.fault.FaultKind.TheVariants.{UnknownWord, BadName, BadNumber, BadPrefix, BadTruncate, UnknownAggregate, DoubleAggregate, BadKey, TooMany, BadDegrade}
use Rattle.policy_text.specs.declared.version.Version.{Version}
use Rattle.policy_text.specs.Words.{Word}
use Rattle.policy_text.specs.Naming.{is_name}
use Rattle.policy_text.specs.Policies.{has_degrade}
use Rattle.policy_text.specs.Grammar.{IsKey}

-- what a word of a line is to be; where the version matters, the part has that of the text
pub data LinePart : Type 0 where
  -- `rule` or `aggregate`
  first_word : Version → LinePart
  -- the one word that the grammar has there
  keyword : LinePart
  who : LinePart
  domain : LinePart
  network : LinePart
  -- `pass`, `withhold`, `aggregate` or `element`
  action : Version → LinePart
  -- the NAME of an aggregate that a line before defines
  known_name : LinePart
  element_or_star : LinePart
  -- `keep`, `remove`, `truncate`, or `degrade` in a version that has it
  treatment : Version → LinePart
  bits : LinePart
  -- the NAME of an aggregate that no line before defines
  unused_name : LinePart
  key_list : LinePart
  seconds : LinePart
  -- no word
  line_end : LinePart

-- the parts of a line's words
abbrev pub rule_parts : Version → List LinePart
rule_parts version = keyword ∷ who ∷ keyword ∷ domain ∷ keyword ∷ network ∷ keyword ∷ network ∷ action version ∷ []

abbrev pub aggregate_parts : List LinePart
aggregate_parts = unused_name ∷ keyword ∷ key_list ∷ keyword ∷ seconds ∷ keyword ∷ seconds ∷ []

-- The parts behind a word: those that follow, or those of the line, the action or the treatment that the word names.
abbrev pub parts_after : LinePart → Word → List LinePart → List LinePart
parts_after (first_word version) word parts = if bytes_eq word (codes "rule") then rule_parts version else aggregate_parts
parts_after (action version) word parts =
    if bytes_eq word (codes "aggregate") then known_name ∷ []
    else if bytes_eq word (codes "element") then element_or_star ∷ treatment version ∷ [] else []
parts_after (treatment version) word parts =
    if bytes_eq word (codes "truncate") then bits ∷ []
    else if bytes_eq word (codes "degrade") then seconds ∷ [] else []
parts_after part word parts = parts

-- the parts that are left when the first of them is this word
abbrev pub parts_left : List LinePart → Word → List LinePart
parts_left [] word = []
parts_left (part ∷ parts) word = parts_after part word parts

-- the part that comes next
abbrev pub next_part : List LinePart → LinePart
next_part [] = line_end
next_part (part ∷ parts) = part

-- the part that stands behind these words
abbrev pub part_behind : List LinePart → List Word → LinePart
part_behind parts front = next_part (fold parts_left parts front)

-- The first piece of a key that doesn't fit: no element has the name, or the element may not stand after those before it.
pub record IsKeyFault (word : Word) (kind : FaultKind) : Type 0 where
  pub key : List Element
  pub piece : Word
  pub others : List Word
  pub pieces_are : slice_split (λ c. c == 44) word ≡ map element_name key ++ piece ∷ others
  pub begun : IsKey key
  pub faulty :
      (((e : Element) → IsElement e → piece ≡ element_name e → ⊥) × (kind ≡ BadName))
      ⊎ ((e : Element) × IsElement e × (piece ≡ element_name e) × (IsKey (key ++ e ∷ []) → ⊥) × (kind ≡ BadKey))

-- the kind of a faulty word by its part
abbrev pub IsKindOf : LinePart → Word → FaultKind → Type 0
IsKindOf (first_word version) word kind = kind ≡ (if bytes_eq word (codes "rule") || bytes_eq word (codes "aggregate") then TooMany else UnknownWord)
IsKindOf keyword word kind = kind ≡ UnknownWord
IsKindOf who word kind = kind ≡ BadName
IsKindOf domain word kind = kind ≡ BadNumber
IsKindOf network word kind = kind ≡ BadPrefix
IsKindOf (action version) word kind = kind ≡ UnknownWord
IsKindOf known_name word kind = kind ≡ (if is_name word then UnknownAggregate else BadName)
IsKindOf element_or_star word kind = kind ≡ BadName
IsKindOf (treatment version) word kind =
    kind ≡ (if bytes_eq word (codes "truncate") then BadTruncate
    else if has_degrade version && bytes_eq word (codes "degrade") then BadDegrade else UnknownWord)
IsKindOf bits word kind = kind ≡ (if is_some (number_of 999 word) then BadTruncate else BadNumber)
IsKindOf unused_name word kind = kind ≡ (if is_name word then DoubleAggregate else BadName)
IsKindOf key_list word kind = IsKeyFault word kind
IsKindOf seconds word kind = kind ≡ BadNumber
IsKindOf line_end word kind = kind ≡ UnknownWord

-- the kind of a fault behind these words: a line that ends early, or the next word
abbrev pub IsKindBehind : List LinePart → List Word → List Word → FaultKind → Type 0
IsKindBehind parts front [] kind = kind ≡ UnknownWord
IsKindBehind parts front (word ∷ words) kind = IsKindOf (part_behind parts front) word kind
