-- What a run keeps, and the history that it stands for.
use Rattle.std.specs.Prelude.{◌≡◌, ℕ, ◌+◌, ◌*◌, ◌≤◌, true, List, [], ◌∷◌, length, Option, Some, None, is_some}
use Rattle.std.specs.List.{flat_map}
use Rattle.subscriber_stream.specs.declared.limits.TheConstants.{MOST_QUEUE}
use Rattle.stream_meaning.specs.Served.{AreStreamable}
use Rattle.disclosure_audit.specs.declared.entry.AuditEntry.{AuditEntry}
use Rattle.event_journal.specs.declared.limits.TheConstants.{MOST_ENTRIES, MOST_OCTETS}
use Rattle.event_journal.specs.declared.entry.Entry.{Entry}
use Rattle.event_journal.specs.Counted.{CountedEntries}
use Rattle.event_journal.specs.Sizes.{history_octets, IsCountOf}
use Rattle.mediator_history.specs.Sessions.{is_open, messages_of}
use Rattle.mediator_history.specs.Subscriptions.{is_served, subscribed_in}
use Rattle.mediator_history.specs.Accepted.{accepted}
use Rattle.mediator_history.specs.Disclosed.{disclosed}
use Rattle.mediator_state.specs.Calls.{StateStandsFor}
use Rattle.mediator_state.specs.Seen.{handed_place}
use Rattle.mediator_offline.specs.declared.run.OfflineRun.{OfflineRun}
use Rattle.mediator_offline.specs.Offline.{offline_stream_limits, audit_limit, offline_journal_limits}

-- sizes tell each history that has them
abbrev pub sizes_tell : CountedEntries → List Entry → Type 0
sizes_tell t h = IsCountOf h t.count t.octets

-- entries where they are kept
abbrev pub listed : Option (List AuditEntry) → List AuditEntry
listed None = []
listed (Some entries) = entries

-- the entries of the audit that wait, as far as they are kept
abbrev pub audit_waiting : {Q : Type 0} → OfflineRun Q → List AuditEntry
audit_waiting d = listed d.state.engine.audit.standing.entries

-- how many wait
abbrev pub audit_count : {Q : Type 0} → OfflineRun Q → ℕ
audit_count d = d.state.engine.audit.standing.waiting

-- they are kept where the job asks for the audit, and nowhere else
abbrev pub KeepsAsked : {Q : Type 0} → OfflineRun Q → Type 0
KeepsAsked d = is_some d.state.engine.audit.standing.entries ≡ d.job.audit

-- how many entries of the audit were drained
abbrev pub audit_drained : {Q : Type 0} → OfflineRun Q → ℕ
audit_drained d = d.state.engine.audit.standing.drained

-- how much the mediator may hold
pub record IsLimited {Q : Type 0} (d : OfflineRun Q) : Type 0 where
  pub limits : d.state.engine.limits ≡ offline_stream_limits
  pub audit : d.state.engine.audit.limit ≡ audit_limit
  pub journal : d.state.chronicle.limits ≡ offline_journal_limits

-- the run stands for a history of the session 1 with the subscription 1 alone, which is served; the records up to place p of
-- the parts of what is disclosed to it were handed out
pub record RunStands {Q : Type 0} (d : OfflineRun Q) (h : List Entry) (p : ℕ) : Type 0 where
  pub state : StateStandsFor sizes_tell d.state h
  pub place : handed_place d.state.engine 1 ≡ p
  pub serving : is_served 1 h ≡ true
  pub alone : flat_map subscribed_in h ≡ 1 ∷ []
  pub opened : is_open 1 h ≡ true
  pub limited : IsLimited d
  pub messages : d.messages ≡ length (messages_of 1 h)
  pub counted : length h ≡ length (messages_of 1 h) + 3
  pub records : d.records ≡ length (accepted h)

-- no count comes near its end, and what is disclosed can be streamed
pub record Small (h : List Entry) : Type 0 where
  pub entries : length h ≤ MOST_ENTRIES
  pub octets : history_octets h ≤ MOST_OCTETS
  pub records : length (accepted h) ≤ history_octets h
  pub listed : length (disclosed 1 h) ≤ MOST_QUEUE * length h
  pub streamable : AreStreamable (disclosed 1 h)

-- a run that stands somewhere
pub record IsServing {Q : Type 0} (d : OfflineRun Q) : Type 0 where
  pub history : List Entry
  pub place : ℕ
  pub stands : RunStands d history place

-- a run whose state stands for some history
pub record RunHasHistory {Q : Type 0} (d : OfflineRun Q) : Type 0 where
  pub history : List Entry
  pub state : StateStandsFor sizes_tell d.state history

-- all but the history, what was handed out and drained, and the octets written is the same
pub record SameButState {Q : Type 0} (d e : OfflineRun Q) : Type 0 where
  pub job : e.job ≡ d.job
  pub messages : e.messages ≡ d.messages
  pub records : e.records ≡ d.records
  pub limits : e.state.engine.limits ≡ d.state.engine.limits
  pub audit_limit : e.state.engine.audit.limit ≡ d.state.engine.audit.limit
  pub journal : e.state.chronicle.limits ≡ d.state.chronicle.limits

-- the audit is as it was
pub record KeepsAudit {Q : Type 0} (d e : OfflineRun Q) : Type 0 where
  pub drained : audit_drained e ≡ audit_drained d
  pub waiting : audit_count e ≡ audit_count d
