-- The values of a record that aggregates look at. Of an element that stands twice the first counts: this project's own rule.
use Rattle.std.specs.Prelude.{ℕ, Bool, List, Option, None, option_map, is_some, unwrap_or, slice_get, position}
use Rattle.ipfix_octets.specs.Octets.{be_value}
use Rattle.sequences.specs.Options.{◌>>=◌}
use Rattle.ipfix_element.specs.Element.{Element}
use Rattle.ipfix_element.specs.Kinds.{kind_of, full_width_of}
use Rattle.ipfix_template.specs.DataRecord.{DataRecord}
use Rattle.policy_judge.specs.Match.{is_same_element}

-- the element of this number in IANA's registry
abbrev pub of_iana : ℕ → Element
of_iana number = record { pen = None; number = number }

-- flowStartSeconds, flowStartMilliseconds, flowEndMilliseconds
abbrev pub flow_start_seconds : Element
flow_start_seconds = of_iana 150

abbrev pub flow_start_milliseconds : Element
flow_start_milliseconds = of_iana 152

abbrev pub flow_end_milliseconds : Element
flow_end_milliseconds = of_iana 153

-- octetDeltaCount, packetDeltaCount, deltaFlowCount
abbrev pub octet_delta_count : Element
octet_delta_count = of_iana 1

abbrev pub packet_delta_count : Element
packet_delta_count = of_iana 2

abbrev pub delta_flow_count : Element
delta_flow_count = of_iana 3

-- the value of the first field of the element
abbrev pub first_value : Element → DataRecord → Option (List ℕ)
first_value e r = position (λ f. is_same_element e f.element) r.template.fields >>= slice_get r.values

abbrev pub has_value : Element → DataRecord → Bool
has_value e r = is_some (first_value e r)

-- that value as a number
abbrev pub first_number : Element → DataRecord → Option ℕ
first_number e r = option_map be_value (first_value e r)

-- the octets of a value of the element at full width, and 0 where none is set
unfoldable pub full_width : Element → ℕ
full_width e = unwrap_or (full_width_of (kind_of e)) 0
