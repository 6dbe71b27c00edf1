-- How long the values of an element are that has a full width (RFC 7011, section 6.2: reduced-size encoding).
use Rattle.std.specs.Prelude.{ℕ, ◌≤◌, List, length}
use Rattle.ipfix_element.specs.Element.{Element}
use Rattle.flow_aggregate.specs.Values.{full_width}

-- a value of 1 octet up to that width
abbrev pub IsWide : Element → List ℕ → Type 0
IsWide e value = 1 ≤ full_width e → (1 ≤ length value) × (length value ≤ full_width e)
