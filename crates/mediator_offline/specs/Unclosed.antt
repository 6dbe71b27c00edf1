-- What a run hands on and names where no advance of the clock closes anything.
use Rattle.std.specs.Prelude.{◌≢◌, ℕ, List, [], if◌then◌else◌}
use Rattle.std.specs.List.{flat_map}
use Rattle.sequences.specs.Before.{each_with_before}
use Rattle.ipfix_template.specs.DataRecord.{DataRecord}
use Rattle.ipfix_session.specs.Meaning.{domain_of}
use Rattle.flow_anonymize.specs.Outcome.{passed}
use Rattle.disclosure_audit.specs.declared.reason.Reason.TheVariants.{Late}
use Rattle.disclosure_audit.specs.declared.entry.What.TheVariants.{Withheld}
use Rattle.disclosure_audit.specs.declared.entry.AuditEntry.{AuditEntry}
use Rattle.event_journal.specs.declared.entry.Entry.{Entry}
use Rattle.event_journal.specs.declared.entry.Entry.TheVariants.{Message}
use Rattle.mediator_history.specs.Subscriptions.{is_served}
use Rattle.mediator_history.specs.Accepted.{records_at}
use Rattle.mediator_history.specs.Counting.{outcome_for}
use Rattle.mediator_offline.specs.declared.job.OfflineJob.{OfflineJob}
use Rattle.mediator_offline.specs.Offline.{history_of}

-- the records of a message that pass, by what stands before it
abbrev pub passing_at : List Entry → Entry → List DataRecord
passing_at before (Message session number octets) =
    if is_served 1 before then flat_map (λ r. passed (outcome_for 1 before (domain_of octets) r)) (records_at before (Message session number octets)) else []
passing_at before _ = []

-- the records of messages that pass
abbrev pub passing_by : OfflineJob → List (List ℕ) → List DataRecord
passing_by job messages = each_with_before passing_at (history_of job messages)

-- the audit doesn't say of the record that it is late
abbrev pub IsNotLate : AuditEntry → Type 0
IsNotLate e = (rule : ℕ) → e.what ≢ Withheld rule Late
