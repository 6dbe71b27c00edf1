-- The names of elements in a policy: this project's own rule, over the numbers of RFC 7011, section 3.2.
use Rattle.std.specs.Prelude.{◌≡◌, ℕ, ◌<◌, Bool, true, ◌||◌, ◌==◌, List, ◌++◌, length, Option, Some, None, codes}
use Rattle.std.specs.Char.{is_ascii_alphanumeric}
use Rattle.std.specs.Fmt.{decimal}
use Rattle.std.specs.List.{list_all}
use Rattle.ipfix_element.specs.Element.{Element, IsElement}
use Rattle.ipfix_element.specs.Registry.{Registered, line_for}

-- `eN`, and `ePEN/N` for an element of an enterprise
abbrev pub numbered_name : Option ℕ → ℕ → List ℕ
numbered_name None number = codes "e" ++ decimal number
numbered_name (Some pen) number = codes "e" ++ (decimal pen ++ (codes "/" ++ decimal number))

-- the registry's name where it has the element
abbrev pub name_on : Option Registered → List ℕ → List ℕ
name_on None otherwise = otherwise
name_on (Some line) otherwise = line.name

-- the one name of an element
unfoldable pub element_name : Element → List ℕ
element_name e = name_on (line_for e.pen e.number) (numbered_name e.pen e.number)

-- no two elements have one name
abbrev pub OneName : Type 0
OneName = (a b : Element) → IsElement a → IsElement b → element_name a ≡ element_name b → a ≡ b

-- a letter, a digit or `/`
abbrev pub is_name_octet : ℕ → Bool
is_name_octet octet = is_ascii_alphanumeric octet || octet == 47

-- a name is one word of such octets
abbrev pub OneWord : Type 0
OneWord = (e : Element) → IsElement e → (0 < length (element_name e)) × (list_all is_name_octet (element_name e) ≡ true)
