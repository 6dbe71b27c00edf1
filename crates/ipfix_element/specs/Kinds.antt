-- The kind of each element, and the lengths that a kind allows (RFC 7012, section 3.1; RFC 7011, section 6.2).
use Rattle.std.specs.Prelude.{ℕ, Bool, true, Option, Some, None, nat_le, ◌==◌, ◌&&◌}
use Rattle.ipfix_element.specs.declared.kind.Kind.{Kind}
use Rattle.ipfix_element.specs.declared.kind.Kind.TheVariants.{U8, U16, U32, U64, Ipv4, Ipv6, Mac, Seconds, Millis, Text, Octets}
use Rattle.ipfix_element.specs.Element.{Element}
use Rattle.ipfix_element.specs.Registry.{Registered, line_for}

-- the kind on the line, and bare octets where there is none
abbrev pub kind_on : Option Registered → Kind
kind_on None = Octets
kind_on (Some line) = line.kind

-- the kind of an element
unfoldable pub kind_of : Element → Kind
kind_of e = kind_on (line_for e.pen e.number)

-- the octets of a value at full width
unfoldable pub full_width_of : Kind → Option ℕ
full_width_of U8 = Some 1
full_width_of U16 = Some 2
full_width_of U32 = Some 4
full_width_of U64 = Some 8
full_width_of Ipv4 = Some 4
full_width_of Ipv6 = Some 16
full_width_of Mac = Some 6
full_width_of Seconds = Some 4
full_width_of Millis = Some 8
full_width_of Text = None
full_width_of Octets = None

-- from 1 octet to the full width
abbrev pub is_up_to : ℕ → ℕ → Bool
is_up_to width length = nat_le 1 length && nat_le length width

-- The lengths that a kind allows. Numbers may be of reduced size; text and octets have any length, 65535 for values
-- that bring their own.
unfoldable pub is_allowed_length : Kind → ℕ → Bool
is_allowed_length U8 length = length == 1
is_allowed_length U16 length = is_up_to 2 length
is_allowed_length U32 length = is_up_to 4 length
is_allowed_length U64 length = is_up_to 8 length
is_allowed_length Ipv4 length = length == 4
is_allowed_length Ipv6 length = length == 16
is_allowed_length Mac length = length == 6
is_allowed_length Seconds length = length == 4
is_allowed_length Millis length = length == 8
is_allowed_length Text length = true
is_allowed_length Octets length = true
