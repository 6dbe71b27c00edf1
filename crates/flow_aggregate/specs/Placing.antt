-- The interval in which a record counts (RFC 7015, section 5.1.1: by the record's start, Start Interval). The reasons why it
-- counts in none, their order, and the grace are this project's own.
use Rattle.std.specs.Prelude.{ℕ, ◌+◌, ◌*◌, ◌/◌, ◌^◌, Bool, List, Option, Some, None, nat_lt, nat_le, if◌then◌else◌}
use Rattle.std.specs.List.{list_all}
use Rattle.ipfix_element.specs.Element.{Element}
use Rattle.ipfix_template.specs.DataRecord.{DataRecord}
use Rattle.policy_text.specs.Policies.{Aggregate}
use Rattle.flow_aggregate.specs.declared.timing.Timing.{Timing}
use Rattle.flow_aggregate.specs.declared.timing.Timing.TheVariants.{Placed, NoTime, NoKey, Late}
use Rattle.flow_aggregate.specs.Values.{first_number, has_value, flow_start_milliseconds, flow_start_seconds}

-- the milliseconds, or else the seconds times 1000
abbrev pub start_by : Option ℕ → Option ℕ → Option ℕ
start_by (Some milliseconds) seconds = Some milliseconds
start_by None (Some seconds) = Some (seconds * 1000)
start_by None None = None

-- when the record's flow started, in milliseconds since 1970
unfoldable pub flow_start : DataRecord → Option ℕ
flow_start r = start_by (first_number flow_start_milliseconds r) (first_number flow_start_seconds r)

-- the length of an interval, and its grace, in milliseconds
abbrev pub width_of : Aggregate → ℕ
width_of a = a.interval * 1000

abbrev pub grace_of : Aggregate → ℕ
grace_of a = a.grace * 1000

-- intervals are [k * w, (k + 1) * w): where the one that holds this time starts
abbrev pub interval_start : Aggregate → ℕ → ℕ
interval_start a time = time / width_of a * width_of a

-- from this time on the interval that starts so counts no more records
abbrev pub closes_at : Aggregate → ℕ → ℕ
closes_at a start = start + width_of a + grace_of a

-- the record has a value of each element of the key
abbrev pub has_key : List Element → DataRecord → Bool
has_key key r = list_all (λ e. has_value e r) key

abbrev pub in_interval : Aggregate → ℕ → ℕ → Timing
in_interval a closed_to start = if nat_le (closes_at a start) closed_to then Late else Placed start

abbrev pub timing_at : Aggregate → DataRecord → ℕ → Option ℕ → Timing
timing_at a r closed_to None = NoTime
timing_at a r closed_to (Some start) =
    if nat_lt start (2 ^ 62) then
    (if has_key a.key r then in_interval a closed_to (interval_start a start) else NoKey)
    else NoTime

-- where a record counts in an aggregate, after an advance of the clock to closed_to, or the first reason why it doesn't
unfoldable pub timing_of : Aggregate → DataRecord → ℕ → Timing
timing_of a r closed_to = timing_at a r closed_to (flow_start r)
