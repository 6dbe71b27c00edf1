-- What counts in aggregates, and what an advance of the clock closes (RFC 7015, section 5). The clock, its advances, and that a
-- record counts by the policy and the clock at its message, are this project's own.
use Rattle.std.specs.Prelude.{ℕ, List, [], ◌∷◌, Option, Some, None, slice_get, if◌then◌else◌}
use Rattle.std.specs.List.{flat_map}
use Rattle.sequences.specs.Before.{each_with_before, last_of}
use Rattle.ipfix_template.specs.DataRecord.{DataRecord}
use Rattle.ipfix_session.specs.Meaning.{domain_of}
use Rattle.policy_text.specs.Policies.{Aggregate}
use Rattle.flow_anonymize.specs.declared.disclosure.Disclosure.TheVariants.{Passed, Aggregated, Withheld}
use Rattle.flow_anonymize.specs.Outcome.{Outcome}
use Rattle.flow_anonymize.specs.Disclosed.{disclosure_of}
use Rattle.flow_aggregate.specs.declared.timing.Timing.{Timing}
use Rattle.flow_aggregate.specs.declared.timing.Timing.TheVariants.{Placed, NoTime}
use Rattle.flow_aggregate.specs.Placing.{timing_of}
use Rattle.flow_aggregate.specs.Groups.{Sample, counted_as}
use Rattle.flow_aggregate.specs.Running.{staying}
use Rattle.event_journal.specs.declared.entry.Entry.{Entry}
use Rattle.event_journal.specs.declared.entry.Entry.TheVariants.{Message, Advance}
use Rattle.mediator_history.specs.Subscriptions.{policy_in_force, name_of, is_served}
use Rattle.mediator_history.specs.Accepted.{records_at}

-- what the policy in force says of a record of this domain to a subscription
abbrev pub outcome_for : ℕ → List Entry → ℕ → DataRecord → Outcome
outcome_for sub before domain r = disclosure_of (name_of sub before) domain r (policy_in_force before).rules

-- ---- the clock

abbrev pub clock_in : Entry → Option ℕ
clock_in (Advance t) = Some t
clock_in _ = None

-- the time of the last advance, in milliseconds since 1970; 0 before the first one
abbrev pub clock_of : List Entry → ℕ
clock_of h = last_of clock_in 0 h

-- ---- which records count

abbrev pub timing_in : Option Aggregate → DataRecord → ℕ → Timing
timing_in None r clock = NoTime
timing_in (Some a) r clock = timing_of a r clock

-- where a record counts in the aggregate at a place of a policy's list, by the clock; a policy has one at each place that it names
abbrev pub timing_at : List Aggregate → ℕ → DataRecord → ℕ → Timing
timing_at aggregates place r clock = timing_in (slice_get aggregates place) r clock

abbrev pub counted_in : Option Aggregate → DataRecord → Timing → List Sample
counted_in (Some a) r (Placed start) = counted_as a r ∷ []
counted_in _ r _ = []

-- the record, if it counts in an aggregate
abbrev pub counts : List Aggregate → ℕ → DataRecord → Outcome → List Sample
counts aggregates clock r (Aggregated rule place) = counted_in (slice_get aggregates place) r (timing_at aggregates place r clock)
counts aggregates clock r (Passed kept removed) = []
counts aggregates clock r (Withheld rule reason) = []

-- the same for a subscription, by what stands before the record's message
abbrev pub counts_for : ℕ → List Entry → ℕ → DataRecord → List Sample
counts_for sub before domain r = counts (policy_in_force before).aggregates (clock_of before) r (outcome_for sub before domain r)

-- the records of an entry that count in aggregates for a subscription
abbrev pub counted_at : ℕ → List Entry → Entry → List Sample
counted_at sub before (Message session number octets) =
    if is_served sub before then flat_map (counts_for sub before (domain_of octets)) (records_at before (Message session number octets)) else []
counted_at sub before _ = []

-- all that ever counted for it
abbrev pub counted : ℕ → List Entry → List Sample
counted sub h = each_with_before (counted_at sub) h

-- those whose groups the clock has not come to: the running groups are theirs; none is of a subscription that is not served
abbrev pub running : ℕ → List Entry → List Sample
running sub h = if is_served sub h then staying (clock_of h) (counted sub h) else []
