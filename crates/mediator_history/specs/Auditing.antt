-- What the audit names: each record that is kept from a subscription, counts in an aggregate or loses fields, and each cut.
use Rattle.std.specs.Prelude.{ℕ, ◌+◌, List, [], ◌∷◌, length, map}
use Rattle.std.specs.List.{flat_map}
use Rattle.sequences.specs.Before.{each_with_before}
use Rattle.ipfix_template.specs.DataRecord.{DataRecord}
use Rattle.policy_text.specs.Policies.{Aggregate}
use Rattle.disclosure_audit.specs.declared.reason.Reason.TheVariants as because
use Rattle.disclosure_audit.specs.declared.entry.RemovedField.{RemovedField}
use Rattle.disclosure_audit.specs.declared.entry.What.{What}
use Rattle.disclosure_audit.specs.declared.entry.What.TheVariants as what
use Rattle.disclosure_audit.specs.declared.entry.AuditEntry.{AuditEntry}
use Rattle.flow_anonymize.specs.declared.disclosure.Disclosure.TheVariants.{Passed, Aggregated, Withheld}
use Rattle.flow_anonymize.specs.Outcome.{Outcome}
use Rattle.flow_aggregate.specs.declared.timing.Timing.{Timing}
use Rattle.flow_aggregate.specs.declared.timing.Timing.TheVariants as timing
use Rattle.event_journal.specs.declared.entry.Entry.{Entry}
use Rattle.event_journal.specs.declared.entry.Entry.TheVariants.{Message, Cut}
use Rattle.mediator_history.specs.Subscriptions.{policy_in_force, served}
use Rattle.mediator_history.specs.Accepted.{AcceptedRecord, accepted_at}
use Rattle.mediator_history.specs.Counting.{outcome_for, clock_of, timing_at}

-- what was kept back of a record; nothing of one that passes with all its fields
abbrev pub removed_of : List RemovedField → List What
removed_of [] = []
removed_of (field ∷ fields) = what.Removed (field ∷ fields) ∷ []

-- of a record that an aggregate rule names: that it counts, or why it doesn't
abbrev pub told_of : ℕ → Timing → What
told_of rule (timing.Placed start) = what.Aggregated rule
told_of rule timing.NoTime = what.Withheld rule because.NoTime
told_of rule timing.NoKey = what.Withheld rule because.NoKey
told_of rule timing.Late = what.Withheld rule because.Late

abbrev pub kept_back : List Aggregate → ℕ → DataRecord → Outcome → List What
kept_back aggregates clock r (Passed kept removed) = removed_of removed
kept_back aggregates clock r (Aggregated rule place) = told_of rule (timing_at aggregates place r clock) ∷ []
kept_back aggregates clock r (Withheld rule reason) = what.Withheld rule reason ∷ []

abbrev pub audit_entry : ℕ → ℕ → ℕ → What → AuditEntry
audit_entry position index sub said = record { position = position; index = index; sub = sub; what = said }

-- what is kept back of an accepted record from a subscription
abbrev pub audit_of : List Entry → AcceptedRecord → ℕ → List AuditEntry
audit_of before a sub =
    map (audit_entry a.position a.index sub) (kept_back (policy_in_force before).aggregates (clock_of before) a.flow (outcome_for sub before a.domain a.flow))

-- the audit entries of an entry, by what stands before it: for each accepted record, for each subscription that is served
abbrev pub audit_at : List Entry → Entry → List AuditEntry
audit_at before (Message session number octets) =
    flat_map (λ a. flat_map (audit_of before a) (served before)) (accepted_at before (Message session number octets))
audit_at before (Cut sub) = audit_entry (length before) 0 sub what.Cut ∷ []
audit_at before _ = []

-- all audit entries of a history, in the order of position, index and subscription
abbrev pub audit_list : List Entry → List AuditEntry
audit_list h = each_with_before audit_at h

-- the audit entries of cuts in a row, the first of which stands at position n
abbrev pub cut_entries : ℕ → List ℕ → List AuditEntry
cut_entries n [] = []
cut_entries n (sub ∷ subs) = audit_entry n 0 sub what.Cut ∷ cut_entries (n + 1) subs
