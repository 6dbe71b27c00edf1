-- A record's addresses (IANA's registry of information elements: sourceIPv4Address is 8 and sourceIPv6Address 27,
-- destinationIPv4Address is 12 and destinationIPv6Address 28).
use Rattle.std.specs.Prelude.{ℕ, Bool, List, map, filter, is_none, ◌==◌, ◌&&◌, ◌||◌}
use Rattle.std.specs.List.{zip}
use Rattle.ipfix_element.specs.Element.{Element}
use Rattle.ipfix_template.specs.DataRecord.{DataRecord}

-- elements without an enterprise number
abbrev pub is_source : Element → Bool
is_source e = is_none e.pen && (e.number == 8 || e.number == 27)

abbrev pub is_destination : Element → Bool
is_destination e = is_none e.pen && (e.number == 12 || e.number == 28)

-- the values of the fields whose elements pass, in their order, scope fields included
abbrev pub values_of : (Element → Bool) → DataRecord → List (List ℕ)
values_of passes r = map (λ p. p.1) (filter (λ p. passes p.0.element) (zip r.template.fields r.values))

abbrev pub sources : DataRecord → List (List ℕ)
sources r = values_of is_source r

abbrev pub destinations : DataRecord → List (List ℕ)
destinations r = values_of is_destination r
