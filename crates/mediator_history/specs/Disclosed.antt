-- What is disclosed to a subscription.
use Rattle.std.specs.Prelude.{ℕ, List, [], if◌then◌else◌}
use Rattle.std.specs.List.{flat_map}
use Rattle.sequences.specs.Before.{each_with_before}
use Rattle.ipfix_template.specs.DataRecord.{DataRecord}
use Rattle.ipfix_session.specs.Meaning.{domain_of}
use Rattle.flow_anonymize.specs.Outcome.{passed}
use Rattle.flow_aggregate.specs.Closing.{closed_by}
use Rattle.event_journal.specs.declared.entry.Entry.{Entry}
use Rattle.event_journal.specs.declared.entry.Entry.TheVariants.{Message, Advance}
use Rattle.mediator_history.specs.Subscriptions.{is_served}
use Rattle.mediator_history.specs.Accepted.{records_at}
use Rattle.mediator_history.specs.Counting.{outcome_for, running}

-- what an entry gives to a subscription, by what stands before it: a message the records that pass, an advance of the clock the
-- groups that it closes
abbrev pub given_at : ℕ → List Entry → Entry → List DataRecord
given_at sub before (Message session number octets) =
    if is_served sub before then flat_map (λ r. passed (outcome_for sub before (domain_of octets) r)) (records_at before (Message session number octets)) else []
given_at sub before (Advance t) = closed_by t (running sub before)
given_at sub before _ = []

-- all that a history discloses to a subscription
abbrev pub disclosed : ℕ → List Entry → List DataRecord
disclosed sub h = each_with_before (given_at sub) h
