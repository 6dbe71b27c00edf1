-- The counters that are summed (RFC 7015, section 5.3.1). That a record without octets or packets counts none, one without
-- flows counts one flow, and that sums stop at the greatest number of 64 bits, is this project's own.
use Rattle.std.specs.Prelude.{ℕ, ◌+◌, ◌-◌, ◌^◌, List, unwrap_or, min}
use Rattle.std.specs.List.{sum_by}
use Rattle.ipfix_template.specs.DataRecord.{DataRecord}
use Rattle.flow_aggregate.specs.declared.sums.Sums.{Sums}
use Rattle.flow_aggregate.specs.Values.{first_number, octet_delta_count, packet_delta_count, delta_flow_count}

abbrev pub capped : ℕ → ℕ
capped n = min n (2 ^ 64 - 1)

-- what a record adds
abbrev pub octets_in : DataRecord → ℕ
octets_in r = unwrap_or (first_number octet_delta_count r) 0

abbrev pub packets_in : DataRecord → ℕ
packets_in r = unwrap_or (first_number packet_delta_count r) 0

abbrev pub flows_in : DataRecord → ℕ
flows_in r = unwrap_or (first_number delta_flow_count r) 1

unfoldable pub counters_of : DataRecord → Sums
counters_of r = record { octets = octets_in r; packets = packets_in r; flows = flows_in r }

-- the sums over records
unfoldable pub totals : List DataRecord → Sums
totals rs = record { octets = capped (sum_by octets_in rs); packets = capped (sum_by packets_in rs); flows = capped (sum_by flows_in rs) }

abbrev pub no_sums : Sums
no_sums = record { octets = 0; packets = 0; flows = 0 }

-- one more added to sums
abbrev pub plus : Sums → Sums → Sums
plus s t = record { octets = capped (s.octets + t.octets); packets = capped (s.packets + t.packets); flows = capped (s.flows + t.flows) }
