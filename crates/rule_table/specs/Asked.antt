-- The marks that are looked up for a record.
use Rattle.std.specs.Prelude.{ℕ, List, [], ◌∷◌, ◌++◌, map, Option, Some, None, ◌==◌, if◌then◌else◌}
use Rattle.std.specs.List.{filter_map, flat_map}
use Rattle.flow_prefix.specs.Bits.{truncated}
use Rattle.ipfix_template.specs.declared.field.FieldSpec.{FieldSpec}
use Rattle.ipfix_template.specs.DataRecord.{DataRecord}
use Rattle.policy_judge.specs.declared.occurrences.Side.{Side}
use Rattle.policy_judge.specs.declared.occurrences.Side.TheVariants.{Source, Destination}
use Rattle.rule_table.specs.declared.addresses.Address.{Address}
use Rattle.rule_table.specs.declared.addresses.Shape.{Shape}
use Rattle.rule_table.specs.Addresses.{addresses_of}
use Rattle.rule_table.specs.Marks.{name_mark, inside_mark, domain_mark, element_mark}

-- the mark of the prefix of this shape that an address is inside
abbrev pub asked_at : ℕ → Side → Address → Shape → Option ℕ
asked_at who side address shape =
    if shape.width == address.width
    then Some (inside_mark who side shape.width shape.length (truncated shape.width shape.length address.number)) else None

-- those of all shapes, for each address
abbrev pub asked_of : ℕ → Side → List Shape → List Address → List ℕ
asked_of who side shapes addresses = flat_map (λ address. filter_map (asked_at who side address) shapes) addresses

-- those of the elements of these fields
abbrev pub asked_elements : ℕ → List FieldSpec → List ℕ
asked_elements who fields = map (λ f. element_mark who f.element) fields

-- after others: what is looked up for rules of this subscriber
abbrev pub with_asked : ℕ → ℕ → List ℕ → List ℕ → List ℕ → List ℕ → List ℕ
with_asked who domain elements from to marks = marks ++ who ∷ [] ++ domain_mark who domain ∷ [] ++ elements ++ from ++ to

-- the marks for rules of any subscriber, and then for rules of the one of this name
abbrev pub asked_by : ℕ → ℕ → List Shape → List Shape → DataRecord → List ℕ → List ℕ
asked_by who domain sources destinations r marks =
    with_asked who domain (asked_elements who r.template.fields) (asked_of who Source sources (addresses_of Source r)) (asked_of who Destination destinations (addresses_of Destination r)) marks

abbrev pub asked_marks : List ℕ → ℕ → List Shape → List Shape → DataRecord → List ℕ
asked_marks name domain sources destinations r =
    asked_by (name_mark name) domain sources destinations r (asked_by 0 domain sources destinations r [])
