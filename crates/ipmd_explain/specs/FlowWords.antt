-- Where from and to a record's flow goes, in words (IANA's registry of information elements: addresses are 8, 27 and 12, 28, ports
-- are 7 and 11).
use Rattle.std.specs.Prelude.{ℕ, Bool, List, [], ◌∷◌, ◌++◌, length, codes, is_none, position, slice_index_or, nat_lt, nat_le, Option, Some, None, ◌==◌, ◌&&◌, ◌||◌, not, if◌then◌else◌}
use Rattle.std.specs.Fmt.{decimal}
use Rattle.sequences.specs.Octets.{be_value}
use Rattle.ipfix_element.specs.Element.{Element}
use Rattle.ipfix_template.specs.DataRecord.{DataRecord}
use Rattle.flow_prefix.specs.declared.family.Family.TheVariants.{Ipv4, Ipv6}
use Rattle.flow_prefix.specs.Printing.{address_text}

-- an element without an enterprise number, with one of two numbers
abbrev pub is_one_of : ℕ → ℕ → Element → Bool
is_one_of number other e = is_none e.pen && (e.number == number || e.number == other)

-- the value at a place; no octets where there is none
abbrev pub octets_at : DataRecord → Option ℕ → List ℕ
octets_at r None = []
octets_at r (Some place) = slice_index_or r.values place []

-- the value of the first field whose element passes
abbrev pub first_passing_value : (Element → Bool) → DataRecord → List ℕ
first_passing_value passes r = octets_at r (position (λ f. passes f.element) r.template.fields)

-- an address has 4 or 16 octets, and a port has one or two
abbrev pub is_address : List ℕ → Bool
is_address octets = length octets == 4 || length octets == 16

abbrev pub is_port : List ℕ → Bool
is_port octets = not (length octets == 0) && nat_le (length octets) 2

abbrev pub is_end : List ℕ → List ℕ → Bool
is_end address port = is_address address && is_port port

-- an address of IPv6 stands in brackets
abbrev pub address_words : List ℕ → List ℕ
address_words octets =
    if length octets == 4 then address_text Ipv4 (be_value octets) else codes "[" ++ (address_text Ipv6 (be_value octets) ++ codes "]")

abbrev pub end_words : List ℕ → List ℕ → List ℕ
end_words address port = address_words address ++ (codes ":" ++ decimal (be_value port))

-- from an address and a port to others; nothing where one of these is none
abbrev pub between_words : List ℕ → List ℕ → List ℕ → List ℕ → List ℕ
between_words source from destination to =
    if is_end source from && is_end destination to then end_words source from ++ (codes " -> " ++ (end_words destination to ++ codes "; ")) else []

abbrev pub flow_words : DataRecord → List ℕ
flow_words r = between_words (first_passing_value (is_one_of 8 27) r) (first_passing_value (is_one_of 7 7) r) (first_passing_value (is_one_of 12 28) r) (first_passing_value (is_one_of 11 11) r)
