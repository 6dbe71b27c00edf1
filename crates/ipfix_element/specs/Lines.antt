-- Lines of the registry, as the crate's own functions look them up.
use Rattle.std.specs.Prelude.{◌≡◌, ℕ, List, Bool, false, Option, Some, None}
use Rattle.std.specs.Str.{bytes_eq}
use Rattle.ipfix_element.specs.declared.registry.Entry.{Entry}
use Rattle.ipfix_element.specs.Registry.{Registered, line, line_of}

-- what the code says of a number, as a line
abbrev pub as_line : ℕ → Entry → Registered
as_line number entry = line number entry.kind entry.name.now

-- the registry has the number under this name
abbrev pub IsLineName : ℕ → List ℕ → Type 0
IsLineName number name = (line : Registered) × (line_of number ≡ Some line) × (line.name ≡ name)

-- the same as a test
abbrev pub has_name : Option Registered → List ℕ → Bool
has_name None name = false
has_name (Some line) name = bytes_eq line.name name

abbrev pub is_named : ℕ → List ℕ → Bool
is_named number name = has_name (line_of number) name
