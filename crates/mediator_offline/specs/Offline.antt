-- The history of a run over one stream, and what is due for it.
use Rattle.std.specs.Prelude.{ℕ, zero, suc, List, [], ◌∷◌, ◌++◌, length, fold, Option, Some, None}
use Rattle.sequences.specs.Before.{each_with_before}
use Rattle.ipfix_template.specs.DataRecord.{DataRecord}
use Rattle.subscriber_stream.specs.declared.limits.StreamLimits.{StreamLimits}
use Rattle.subscriber_stream.specs.declared.limits.TheConstants.{MOST_SHAPES}
use Rattle.subscriber_stream.specs.Parts.{parts}
use Rattle.subscriber_stream.specs.Message.{built, place_after}
use Rattle.mediator_offline.specs.Lines.{lines_for}
use Rattle.mediator_offline.specs.declared.job.OfflineJob.{OfflineJob}
use Rattle.event_journal.specs.declared.limits.TheConstants.{MOST_ENTRIES, MOST_OCTETS}
use Rattle.event_journal.specs.declared.entry.Entry.{Entry}
use Rattle.event_journal.specs.declared.entry.Entry.TheVariants.{Open, Message, Edit, Subscribe}
use Rattle.event_journal.specs.Room.{JournalLimits}
use Rattle.mediator_history.specs.Sessions.{messages_of}
use Rattle.mediator_history.specs.Disclosed.{disclosed}
use Rattle.mediator_history.specs.Auditing.{audit_list}
use Rattle.mediator_history.specs.Cuts.{cuts_before}
use Rattle.mediator_state.specs.declared.state.TheConstants.{DEFAULT_AUDIT, DEFAULT_QUEUE}

-- how many records may wait for a subscriber, and how many shapes its records may have
abbrev pub offline_stream_limits : StreamLimits
offline_stream_limits = record { queue = DEFAULT_QUEUE; shapes = MOST_SHAPES }

-- how many audit entries may wait
abbrev pub audit_limit : ℕ
audit_limit = DEFAULT_AUDIT

-- a history may be as long as any
abbrev pub offline_journal_limits : JournalLimits
offline_journal_limits = record { entries = MOST_ENTRIES; octets = MOST_OCTETS }

-- the policy comes first
abbrev pub first_edit : OfflineJob → List Entry
first_edit job = Edit job.policy.now ∷ []

-- before the first message: the policy, the subscription and the session
abbrev pub first_entries : OfflineJob → List Entry
first_entries job = Edit job.policy.now ∷ Subscribe 1 job.name.now ∷ Open 1 ∷ []

-- the entry of the session's next message
abbrev pub next_message : List Entry → List ℕ → Entry
next_message h octets = Message 1 (length (messages_of 1 h)) octets

-- nothing waits for a subscriber where a message comes in: all that was disclosed before it was pulled
abbrev pub cuts_by : List Entry → List ℕ → List Entry
cuts_by h octets = cuts_before offline_stream_limits h (next_message h octets) (λ sub. 0)

-- the history with one message more, after the cuts that it makes
abbrev pub after_message : List Entry → List ℕ → List Entry
after_message h octets = h ++ (cuts_by h octets ++ next_message h octets ∷ [])

-- the history after messages
abbrev pub history_of : OfflineJob → List (List ℕ) → List Entry
history_of job messages = fold after_message (first_entries job) messages

-- what messages disclose to the subscriber
abbrev pub disclosed_by : OfflineJob → List (List ℕ) → List DataRecord
disclosed_by job messages = disclosed 1 (history_of job messages)

abbrev pub and_then : Option (List ℕ) → List (List ℕ) → List (List ℕ)
and_then None others = []
and_then (Some message) others = message ∷ others

-- the messages that pulls with this Export Time and target give one after another, from place p on, at most so many
abbrev pub messages_pulled : ℕ → List DataRecord → ℕ → ℕ → ℕ → List (List ℕ)
messages_pulled zero records p now target = []
messages_pulled (suc most) records p now target = and_then (built records p now target) (messages_pulled most records (place_after records p target) now target)

-- all of them, to the end: each takes a part or more
abbrev pub pulled_to_end : List DataRecord → ℕ → ℕ → ℕ → List (List ℕ)
pulled_to_end records p now target = messages_pulled (length (parts records)) records p now target

-- the messages that become due by one message more: they are pulled from where the earlier ones ended
abbrev pub due_by : OfflineJob → List (List ℕ) → List ℕ → List (List ℕ)
due_by job before octets =
    pulled_to_end (disclosed_by job (before ++ octets ∷ [])) (length (parts (disclosed_by job before))) job.now job.target

-- the messages that are due for the subscriber
abbrev pub due : OfflineJob → List (List ℕ) → List (List ℕ)
due job messages = each_with_before (due_by job) messages

-- the lines that are due in the audit: none where it isn't asked for
abbrev pub audit_due : OfflineJob → List (List ℕ) → List ℕ
audit_due job messages = lines_for job.audit (audit_list (history_of job messages))

-- the place behind all parts of what a history discloses
abbrev pub end_of : List Entry → ℕ
end_of h = length (parts (disclosed 1 h))
