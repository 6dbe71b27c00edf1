-- The record of a closed group (RFC 7015, section 5: an Aggregated Flow with its key, its interval and its counters).
use Rattle.std.specs.Prelude.{◌≡◌, ℕ, ◌+◌, List, [], ◌∷◌, ◌++◌, map, take, drop}
use Rattle.ipfix_octets.specs.Octets.{be_octets}
use Rattle.ipfix_element.specs.Element.{Element}
use Rattle.ipfix_template.specs.declared.field.FieldSpec.{FieldSpec}
use Rattle.ipfix_template.specs.declared.template.Template.{Template}
use Rattle.ipfix_template.specs.DataRecord.{DataRecord}
use Rattle.policy_text.specs.Policies.{Aggregate}
use Rattle.flow_aggregate.specs.declared.sums.Sums.{Sums}
use Rattle.flow_aggregate.specs.Values.{full_width, flow_start_milliseconds, flow_end_milliseconds, octet_delta_count, packet_delta_count, delta_flow_count}
use Rattle.flow_aggregate.specs.Placing.{width_of}
use Rattle.flow_aggregate.specs.Groups.{Group}

abbrev pub field : Element → ℕ → FieldSpec
field e width = record { element = e; length = width }

-- the key's elements at full width
abbrev pub key_fields : List Element → List FieldSpec
key_fields key = map (λ e. field e (full_width e)) key

-- the interval's start and end, and the sums, in 8 octets each
abbrev pub sum_fields : List FieldSpec
sum_fields =
    field flow_start_milliseconds 8 ∷ field flow_end_milliseconds 8
    ∷ field octet_delta_count 8 ∷ field packet_delta_count 8 ∷ field delta_flow_count 8 ∷ []

-- the template of the records of an aggregate with this key
abbrev pub HasTemplate : List Element → Template → Type 0
HasTemplate key t = t ≡ record { fields = key_fields key ++ sum_fields; scope = 0 }

unfoldable pub closed_template : Aggregate → Template
closed_template a = record { fields = key_fields a.key ++ sum_fields; scope = 0 }

-- the values of the key's elements, cut out of the key's octets
abbrev pub key_values : List Element → List ℕ → List (List ℕ)
key_values [] octets = []
key_values (e ∷ es) octets = take (full_width e) octets ∷ key_values es (drop (full_width e) octets)

abbrev pub number_values : List ℕ → List (List ℕ)
number_values numbers = map (be_octets 8) numbers

abbrev pub end_of : Group → ℕ
end_of g = g.start + width_of g.definition

unfoldable pub closed_values : Group → Sums → List (List ℕ)
closed_values g s =
    key_values g.definition.key g.key ++ number_values (g.start ∷ end_of g ∷ s.octets ∷ s.packets ∷ s.flows ∷ [])

-- the record of a group with these sums
abbrev pub closed_record : Group → Sums → DataRecord
closed_record g s = record { template = closed_template g.definition; values = closed_values g s }
