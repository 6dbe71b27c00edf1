-- The addresses of a record as numbers, and the shapes of prefixes: an address has 32 or 128 bits.
use Rattle.std.specs.Prelude.{ℕ, List, length, Option, Some, None, ◌==◌, if◌then◌else◌}
use Rattle.std.specs.List.{filter_map, zip}
use Rattle.sequences.specs.Octets.{be_value}
use Rattle.ipfix_template.specs.declared.field.FieldSpec.{FieldSpec}
use Rattle.ipfix_template.specs.DataRecord.{DataRecord}
use Rattle.flow_prefix.specs.declared.prefix.Prefix.{Prefix}
use Rattle.flow_prefix.specs.declared.prefix.Prefix.TheVariants.{V4, V6}
use Rattle.policy_text.specs.declared.rule.Rule.{Rule}
use Rattle.policy_judge.specs.declared.occurrences.Side.{Side}
use Rattle.policy_judge.specs.declared.occurrences.Side.TheVariants.{Source, Destination}
use Rattle.policy_judge.specs.Sides.{is_of}
use Rattle.rule_table.specs.declared.addresses.Address.{Address}
use Rattle.rule_table.specs.declared.addresses.Shape.{Shape}

-- a value of 4 octets, or of 16
abbrev pub address_value : List ℕ → Option Address
address_value octets =
    if length octets == 4 then Some (record { width = 32; number = be_value octets })
    else if length octets == 16 then Some (record { width = 128; number = be_value octets })
    else None

-- of a field of this side alone
abbrev pub address_at : Side → FieldSpec × List ℕ → Option Address
address_at side field = if is_of side field.0.element then address_value field.1 else None

-- in the order of the fields
abbrev pub addresses_of : Side → DataRecord → List Address
addresses_of side r = filter_map (address_at side) (zip r.template.fields r.values)

-- a prefix without its address
abbrev pub shape_of : Prefix → Shape
shape_of (V4 net) = record { width = 32; length = net.length }
shape_of (V6 net) = record { width = 128; length = net.length }

-- the prefix that a rule names on a side
abbrev pub prefix_on : Side → Rule → Option Prefix
prefix_on Source rule = rule.from
prefix_on Destination rule = rule.to
