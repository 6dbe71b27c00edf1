-- What the steps want by which a plan is carried out.
use Rattle.std.specs.Prelude.{◌≡◌, ℕ, ◌+◌, ◌<◌, ◌≤◌, ◌^◌, true, List, length, map, IfSome, IsSomeAnd}
use Rattle.std.specs.List.{AllByRecursion}
use Rattle.ipfix_template.specs.DataRecord.{DataRecord}
use Rattle.ipfix_session.specs.Keeping.{at_key}
use Rattle.ipfix_session.specs.Meaning.{Meaning}
use Rattle.ipfix_session.specs.ReadAhead.{Ahead, IsReadingOf, HasRoomFor}
use Rattle.disclosure_audit.specs.declared.entry.AuditEntry.{AuditEntry}
use Rattle.disclosure_audit.specs.declared.entry.Note.{Note}
use Rattle.disclosure_audit.specs.declared.audit.TheConstants.{MOST_ENTRIES as MOST_AUDITED}
use Rattle.disclosure_audit.specs.Noting.{KeptNotes, kept_notes}
use Rattle.disclosure_audit.specs.Queue.{KeptAudit, most_notes}
use Rattle.event_journal.specs.declared.limits.TheConstants.{MOST_ENTRIES}
use Rattle.event_journal.specs.declared.entry.Entry.{Entry}
use Rattle.event_journal.specs.declared.entry.Entry.TheVariants.{Message}
use Rattle.mediator_history.specs.Sessions.{is_open, messages_of}
use Rattle.mediator_history.specs.Subscriptions.{served}
use Rattle.mediator_history.specs.Auditing.{audit_at}
use Rattle.flow_aggregate.specs.declared.addition.Addition.{Addition}
use Rattle.flow_aggregate.specs.Counts.{Count}
use Rattle.mediator_tables.specs.SubscriptionTable.{shown}
use Rattle.mediator_tables.specs.Adding.{tallied}
use Rattle.mediator_tables.specs.SubscriptionTable.{HasSpare, AreReady}
use Rattle.mediator_state.specs.declared.engine.Engine.{Engine}
use Rattle.mediator_state.specs.declared.fault.Fault.{Fault}
use Rattle.mediator_state.specs.declared.fault.Fault.TheVariants as fault
use Rattle.mediator_state.specs.declared.plan.MessagePlan.{MessagePlan}
use Rattle.mediator_state.specs.declared.receipt.Receipt.{Receipt}
use Rattle.mediator_state.specs.Standing.{Stands}
use Rattle.mediator_tables.specs.Adding.{AllReady, NoneTwice, AreCountable}
use Rattle.mediator_state.specs.Planning.{share_at, AreTallied, HasRoomIn, AreStreamed, IsPlan}

-- the audit has no room for so many entries, and this is its room; or it has, and memory ran out
abbrev pub LacksAudit : Fault → KeptAudit → ℕ → Type 0
LacksAudit (fault.AuditFull need room) audit noted = (need ≡ noted) × (room < need) × (room + audit.standing.waiting ≡ audit.limit)
LacksAudit fault.OutOfMemory audit noted = audit.standing.waiting + noted ≤ audit.limit
LacksAudit _ audit noted = ⊥

-- the audit has room for so many entries, and in memory so many places
pub record HasAuditFor (audit : KeptAudit) (more places : ℕ) : Type 0 where
  pub room : audit.standing.waiting + more ≤ audit.limit
  pub limit : audit.limit ≤ MOST_AUDITED
  pub reserved : places ≤ audit.spare

-- room was made for what a plan does, a place for each cut and one for all notes, and what it counts is ready so
pub record HasRoomForPlan {Q : Type 0} (e : Engine Q) (p : MessagePlan) (added : List (ℕ × List Addition)) : Type 0 where
  pub audit : e.audit.standing.waiting + (length p.cuts.items + p.notes.count) ≤ e.audit.limit
  pub limit : e.audit.limit ≤ MOST_AUDITED
  pub reserved : length p.cuts.items + 1 ≤ e.audit.spare
  pub session : IfSome (at_key p.session.0 e.sessions) (λ o. HasRoomFor o.session p.reading)
  pub streams : AllByRecursion (HasSpare e.subscriptions.live) (map shown p.shares.items)
  pub groups : NoneTwice (map tallied p.tallies.items) → AllReady e.groups added (map tallied p.tallies.items)

-- it is the plan for a message behind some history of so many entries
pub record IsPlannedFor {Q : Type 0} (e : Engine Q) (position : ℕ) (p : MessagePlan) : Type 0 where
  pub history : List Entry
  pub number : ℕ
  pub octets : List ℕ
  pub stands : Stands e history
  pub counted : length history ≡ position
  pub short : position ≤ MOST_ENTRIES
  pub plan : IsPlan e history number octets p

-- the receipt of a message of this meaning, behind so many entries and cuts
abbrev pub receipt_of : ℕ → ℕ → Meaning → Receipt
receipt_of position cuts m = record { position = position + cuts; records = length m.records; cut = cuts; skips = m.skips; gap = m.gap }

-- sessions, streams, groups and audit have room for what a message brings, gives, counts and keeps back, of which these are the notes that
-- the audit is to keep
pub record IsReadyToTake {Q : Type 0} (e : Engine Q) (session : ℕ) (reading : Ahead) (shares : List (ℕ × List DataRecord)) (added : List (ℕ × List Addition)) (notes : KeptNotes) : Type 0 where
  pub history : List Entry
  pub stands : Stands e history
  pub session_room : IsSomeAnd (at_key session e.sessions) (λ o. HasRoomFor o.session reading)
  pub session_count : IfSome (at_key session e.sessions) (λ o. o.accepted + 1 < 2 ^ 64)
  pub streams : AreReady e.subscriptions shares
  pub groups : AreCountable e.groups added
  pub named : List Note
  pub kept : notes ≡ kept_notes (most_notes e.audit) named
  pub audit : e.audit.standing.waiting + notes.count ≤ e.audit.limit
  pub reserved : 0 < e.audit.spare
  pub count : e.audit.standing.drained + e.audit.standing.waiting + notes.count < 2 ^ 64

-- what was read of a message, what it gives to each that is served and adds to its aggregates, and what the audit names of it
pub record Brought : Type 0 where
  pub reading : Ahead
  pub shares : List (ℕ × List DataRecord)
  pub tallies : List (ℕ × List Count)
  pub entries : List AuditEntry

-- this is what a message brings behind a history
pub record IsBroughtBy {Q : Type 0} (e : Engine Q) (h : List Entry) (session number : ℕ) (octets : List ℕ) (b : Brought) : Type 0 where
  pub opened : is_open session h ≡ true
  pub read : IsReadingOf (messages_of session h) octets b.reading
  pub shares_are : b.shares ≡ map (share_at h (Message session number octets)) (served h)
  pub tallies_are : AreTallied h (Message session number octets) b.tallies
  pub entries_are : b.entries ≡ audit_at h (Message session number octets)
  pub room : AllByRecursion (HasRoomIn e.subscriptions) b.shares
  pub streamable : AllByRecursion AreStreamed b.shares
  pub few : length b.entries ≤ MOST_AUDITED
