-- What a message would do, and why it is refused.
use Rattle.std.specs.Prelude.{◌≡◌, ◌≢◌, ℕ, ◌<◌, Bool, true, false, not, List, length, map, filter, Ok, Err, IsSomeAnd}
use Rattle.std.specs.List.{AllByRecursion}
use Rattle.ipfix_template.specs.DataRecord.{DataRecord}
use Rattle.ipfix_session.specs.Keeping.{at_key}
use Rattle.ipfix_session.specs.Meaning.{Meaning, meaning_of}
use Rattle.ipfix_session.specs.ReadAhead.{Ahead, IsReadingOf}
use Rattle.flow_aggregate.specs.Counts.{Count, count_of}
use Rattle.subscriber_stream.specs.Standing.{HasStreamRoom}
use Rattle.stream_meaning.specs.Served.{IsStreamable}
use Rattle.disclosure_audit.specs.declared.entry.AuditEntry.{AuditEntry}
use Rattle.disclosure_audit.specs.declared.entry.Note.{Note}
use Rattle.disclosure_audit.specs.Noting.{kept_notes}
use Rattle.disclosure_audit.specs.Queue.{stamp, most_notes}
use Rattle.event_journal.specs.declared.entry.Entry.{Entry}
use Rattle.event_journal.specs.declared.entry.Entry.TheVariants.{Message}
use Rattle.mediator_history.specs.Sessions.{is_open, messages_of}
use Rattle.mediator_history.specs.Subscriptions.{served}
use Rattle.mediator_history.specs.Counting.{counted_at}
use Rattle.mediator_history.specs.Disclosed.{given_at}
use Rattle.mediator_history.specs.Auditing.{audit_at}
use Rattle.mediator_history.specs.Cuts.{is_cut_by, after_cuts}
use Rattle.mediator_tables.specs.declared.served.Served.{Served}
use Rattle.mediator_shares.specs.InForce.{InForce}
use Rattle.mediator_tables.specs.SubscriptionTable.{shown}
use Rattle.mediator_tables.specs.Adding.{tallied}
use Rattle.mediator_shares.specs.Sharing.{share_of}
use Rattle.mediator_tables.specs.declared.open_session.OpenSession.{OpenSession}
use Rattle.mediator_tables.specs.SubscriptionTable.{SubscriptionRows, at, lacks_room_at}
use Rattle.prepared_message.specs.Preparation.{Preparation, AgreesWith}
use Rattle.mediator_state.specs.declared.engine.Engine.{Engine}
use Rattle.mediator_state.specs.declared.fault.Fault.{Fault}
use Rattle.mediator_state.specs.declared.fault.Fault.TheVariants as fault
use Rattle.mediator_state.specs.declared.plan.Judged.{Judged}
use Rattle.mediator_state.specs.declared.plan.MessagePlan.{MessagePlan}
use Rattle.mediator_state.specs.Seen.{waiting_of}

-- whether there is no room for the share of one that is served
abbrev pub lacks : SubscriptionRows → ℕ → InForce → List DataRecord → Served → Bool
lacks t domain f records who = lacks_room_at t (share_of domain f records who)

abbrev pub has : SubscriptionRows → ℕ → InForce → List DataRecord → Served → Bool
has t domain f records who = not (lacks t domain f records who)

-- what an entry gives to a subscription
abbrev pub share_at : List Entry → Entry → ℕ → ℕ × List DataRecord
share_at h entry sub = (sub, given_at sub h entry)

-- what an entry adds to the aggregates of a subscription
abbrev pub tally_at : List Entry → Entry → ℕ → ℕ × List Count
tally_at h entry sub = (sub, map count_of (counted_at sub h entry))

-- the same of all that are served
abbrev pub AreTallied : List Entry → Entry → List (ℕ × List Count) → Type 0
AreTallied h entry tallies = tallies ≡ map (tally_at h entry) (served h)

-- the subscription's stream has room for its share, if the share has a record
abbrev pub HasRoomIn : SubscriptionRows → ℕ × List DataRecord → Type 0
HasRoomIn t share = 0 < length share.1 → IsSomeAnd (at t share.0) (λ s. HasStreamRoom s.stream share.1)

-- each record of a share may be streamed
abbrev pub AreStreamed : ℕ × List DataRecord → Type 0
AreStreamed share = AllByRecursion IsStreamable share.1

-- an entry behind a history cuts these, gives these shares to those that are left, and the audit names these of it
pub record IsJudged {Q : Type 0} (e : Engine Q) (h : List Entry) (entry : Entry) (cuts : List ℕ) (shares : List (ℕ × List DataRecord)) (entries : List AuditEntry) : Type 0 where
  pub cuts_are : cuts ≡ filter (is_cut_by e.limits h entry (waiting_of e)) (served h)
  pub shares_are : shares ≡ map (share_at (after_cuts h cuts) entry) (served (after_cuts h cuts))
  pub entries_are : entries ≡ audit_at (after_cuts h cuts) entry
  pub room : AllByRecursion (HasRoomIn e.subscriptions) shares
  pub streamable : AllByRecursion AreStreamed shares

-- and this it names, of which is kept what the audit is to keep
pub record IsJudgedAs {Q : Type 0} (e : Engine Q) (h : List Entry) (entry : Entry) (j : Judged) : Type 0 where
  pub named : List Note
  pub kept : j.notes ≡ kept_notes (most_notes e.audit) named
  pub judged : IsJudged e h entry j.cuts.items (map shown j.shares.items) (map (stamp j.position) named)
  pub tallied_are : AreTallied (after_cuts h j.cuts.items) entry (map tallied j.tallies.items)

abbrev pub IsJudgedFor : {Q : Type 0} → Engine Q → List Entry → Meaning → Judged → Type 0
IsJudgedFor e h m j = (session number : ℕ) (octets : List ℕ) → meaning_of (messages_of session h) octets ≡ Ok m → IsJudgedAs e h (Message session number octets) j

-- what a message would do behind a history
pub record IsPlan {Q : Type 0} (e : Engine Q) (h : List Entry) (number : ℕ) (octets : List ℕ) (p : MessagePlan) : Type 0 where
  pub opened : is_open p.session.0 h ≡ true
  pub turn : number ≡ length (messages_of p.session.0 h)
  pub read : IsReadingOf (messages_of p.session.0 h) octets p.reading
  pub named : List Note
  pub kept : p.notes ≡ kept_notes (most_notes e.audit) named
  pub judged : IsJudged e h (Message p.session.0 number octets) p.cuts.items (map shown p.shares.items) (map (stamp p.position) named)
  pub tallied_are : AreTallied (after_cuts h p.cuts.items) (Message p.session.0 number octets) (map tallied p.tallies.items)

-- the session is open, and this is the number of its next message
pub record IsInTurn {Q : Type 0} (e : Engine Q) (session number : ℕ) (o : OpenSession) : Type 0 where
  pub is : IsSomeAnd (at_key session e.sessions) (λ s. s ≡ o)
  pub turn : number ≡ o.accepted

-- a message is refused so before it is read
abbrev pub RefusesTurn : Fault → List Entry → ℕ → ℕ → Type 0
RefusesTurn fault.UnknownSession h session number = is_open session h ≡ false
RefusesTurn (fault.OutOfTurn expected) h session number = (is_open session h ≡ true) × (expected ≡ length (messages_of session h)) × (number ≢ expected)
RefusesTurn _ h session number = ⊥

-- the message is the next of an open session
pub record IsNext (h : List Entry) (session number : ℕ) : Type 0 where
  pub opened : is_open session h ≡ true
  pub turn : number ≡ length (messages_of session h)

-- this was read of the octets, as those of the next message of an open session
pub record IsNextReading (h : List Entry) (session number : ℕ) (octets : List ℕ) (reading : Ahead) : Type 0 where
  pub next : IsNext h session number
  pub read : IsReadingOf (messages_of session h) octets reading

-- a message is refused so for itself: its session, its number, its octets, in this order; memory runs out only for the next message
-- of an open session
abbrev pub RefusesMessage : Fault → List Entry → ℕ → ℕ → List ℕ → Type 0
RefusesMessage (fault.Malformed why) h session number octets = IsNext h session number × (meaning_of (messages_of session h) octets ≡ Err why)
RefusesMessage fault.OutOfMemory h session number octets = IsNext h session number
RefusesMessage fault.UnknownSession h session number octets = RefusesTurn fault.UnknownSession h session number
RefusesMessage (fault.OutOfTurn expected) h session number octets = RefusesTurn (fault.OutOfTurn expected) h session number
RefusesMessage _ h session number octets = ⊥

-- a message that was prepared elsewhere is refused so for itself: its session, its number, the templates by which it was prepared,
-- in this order
abbrev pub RefusesPrepared : Fault → List Entry → ℕ → ℕ → Preparation → Type 0
RefusesPrepared fault.Stale h session number p = IsNext h session number × (AgreesWith (messages_of session h) p → ⊥)
RefusesPrepared fault.OutOfMemory h session number p = IsNext h session number
RefusesPrepared fault.UnknownSession h session number p = RefusesTurn fault.UnknownSession h session number
RefusesPrepared (fault.OutOfTurn expected) h session number p = RefusesTurn (fault.OutOfTurn expected) h session number
RefusesPrepared _ h session number p = ⊥
