-- What the calls of a state answer, and what they leave.
use Rattle.std.specs.Prelude.{◌≡◌, ◌≢◌, ℕ, ◌+◌, ◌≤◌, ◌<◌, true, false, not, List, [], ◌∷◌, ◌++◌, length, take, drop, Option, Ok, Err}
use Rattle.ipfix_template.specs.declared.template.Template.{Template}
use Rattle.ipfix_session.specs.Meaning.{Meaning, meaning_of}
use Rattle.ipfix_session.specs.Standing.{Knows}
use Rattle.prepared_message.specs.Preparation.{Preparation, AgreesWith}
use Rattle.policy_text.specs.Policies.{PolicyMeaning as Policy}
use Rattle.policy_text.specs.Parsing.{policy_of}
use Rattle.policy_text.specs.Naming.{is_name}
use Rattle.subscriber_stream.specs.Shapes.{shapes_of}
use Rattle.subscriber_stream.specs.Parts.{parts, records_of_parts}
use Rattle.subscriber_stream.specs.Message.{built, place_after}
use Rattle.disclosure_audit.specs.declared.entry.AuditEntry.{AuditEntry}
use Rattle.event_journal.specs.Sizes.{history_octets}
use Rattle.event_journal.specs.declared.entry.Entry.{Entry}
use Rattle.event_journal.specs.declared.entry.Entry.TheVariants.{Open, Close, Message, Edit, Subscribe, Unsubscribe, Advance}
use Rattle.event_journal.specs.Room.{JournalLimits, HasRoom, HasRoomAfter}
use Rattle.mediator_history.specs.Sessions.{is_open, messages_of, sessions_opened}
use Rattle.mediator_history.specs.Subscriptions.{edits_made, name_of, is_live, is_served, subscriptions_begun}
use Rattle.mediator_history.specs.Counting.{clock_of}
use Rattle.mediator_history.specs.Disclosed.{disclosed}
use Rattle.mediator_history.specs.Auditing.{audit_list}
use Rattle.mediator_history.specs.Cuts.{cuts_before}
use Rattle.mediator_state.specs.declared.engine.Engine.{Engine}
use Rattle.mediator_state.specs.declared.receipt.Receipt.{Receipt}
use Rattle.mediator_state.specs.declared.receipt.Status.{Status}
use Rattle.mediator_state.specs.declared.fault.Fault.{Fault}
use Rattle.mediator_state.specs.declared.fault.Fault.TheVariants as fault
use Rattle.mediator_state.specs.declared.state.State.{State}
use Rattle.mediator_state.specs.Standing.{Stands}
use Rattle.mediator_state.specs.Seen.{handed_place, waiting_of, IsUntouched}
use Rattle.mediator_state.specs.Planning.{IsNext, RefusesMessage}
use Rattle.mediator_state.specs.Accepting.{receipt_of}

-- the state stands for the history, which what keeps it tells
pub record StateStandsFor {C Q : Type 0} (tells : C → List Entry → Type 0) (s : State C Q) (h : List Entry) : Type 0 where
  pub told : tells s.chronicle h
  pub stands : Stands s.engine h

pub record StandsForSome {C Q : Type 0} (tells : C → List Entry → Type 0) (s : State C Q) : Type 0 where
  pub history : List Entry
  pub stands : StateStandsFor tells s history

-- whichever history the state stands for, this holds of it
abbrev pub ForEachHistory : {C Q : Type 0} → (C → List Entry → Type 0) → State C Q → (List Entry → Type 0) → Type 0
ForEachHistory tells s P = (h : List Entry) → StateStandsFor tells s h → P h

-- the new state stands for each history that the old one stood for
abbrev pub KeepsHistories : {C Q : Type 0} → (C → List Entry → Type 0) → State C Q → State C Q → Type 0
KeepsHistories tells old new = ForEachHistory tells old (StateStandsFor tells new)

-- a step: behind the history there was room for these entries, and the new state stands for it with them
pub record Accepts {C Q : Type 0} (tells : C → List Entry → Type 0) (limits : C → JournalLimits) (old new : State C Q) (h more : List Entry) : Type 0 where
  pub room : HasRoomAfter (limits old.chronicle) h more
  pub stands : StateStandsFor tells new (h ++ more)

-- whichever history the state stood for, this holds of it, and of the entries that were accepted behind it
abbrev pub GoesOnBy : {C Q : Type 0} → (C → List Entry → Type 0) → (C → JournalLimits) → State C Q → State C Q → (List Entry → (List Entry → Type 0) → Type 0) → Type 0
GoesOnBy tells limits old new P = ForEachHistory tells old (λ h. P h (Accepts tells limits old new h))

-- a call that is accepted goes on so, hands out and drains nothing, and leaves the limits
pub record Proceeds {C Q : Type 0} (tells : C → List Entry → Type 0) (limits : C → JournalLimits) (old new : State C Q) (P : List Entry → (List Entry → Type 0) → Type 0) : Type 0 where
  pub goes_on : GoesOnBy tells limits old new P
  pub untouched : IsUntouched old.engine new.engine
  pub journaled : limits new.chronicle ≡ limits old.chronicle

-- one that is refused changes nothing that contracts see
pub record StaysSame {C Q : Type 0} (tells : C → List Entry → Type 0) (limits : C → JournalLimits) (old new : State C Q) : Type 0 where
  pub histories : KeepsHistories tells old new
  pub untouched : IsUntouched old.engine new.engine
  pub journaled : limits new.chronicle ≡ limits old.chronicle

-- what waits to be drained is no more than the audit's limit, before these entries behind a history and with what it names of them
pub record AuditHoldsAfter {Q : Type 0} (e : Engine Q) (h more : List Entry) : Type 0 where
  pub before : e.audit.standing.waiting ≤ e.audit.limit
  pub after : length (drop e.audit.standing.drained (audit_list (h ++ more))) ≤ e.audit.limit

-- behind so many entries of so many octets there is no room for these; or there is, and memory ran out
abbrev pub LacksRoom : Fault → JournalLimits → ℕ → ℕ → List Entry → Type 0
LacksRoom fault.JournalFull limits count octets more = HasRoom limits count octets more → ⊥
LacksRoom fault.OutOfMemory limits count octets more = HasRoom limits count octets more
LacksRoom _ limits count octets more = ⊥

-- the same behind a history
abbrev pub LacksRoomAfter : Fault → JournalLimits → List Entry → List Entry → Type 0
LacksRoomAfter e limits h more = LacksRoom e limits (length h) (history_octets h) more

-- Below, a record of each call says what it answers behind the history h, and that its entries were accepted there. Beside it
-- stands why the call is refused.

-- ---- sessions

-- the next number, from 1 on
pub record OpensAfter (n : ℕ) (h : List Entry) (accepted : List Entry → Type 0) : Type 0 where
  pub number : n ≡ sessions_opened h + 1
  pub accepts : accepted (Open n ∷ [])

abbrev pub RefusesOpenAfter : Fault → JournalLimits → List Entry → Type 0
RefusesOpenAfter e limits h = LacksRoomAfter e limits h (Open (sessions_opened h + 1) ∷ [])

pub record ClosesAfter (session : ℕ) (h : List Entry) (accepted : List Entry → Type 0) : Type 0 where
  pub opened : is_open session h ≡ true
  pub accepts : accepted (Close session ∷ [])

abbrev pub RefusesClose : Fault → JournalLimits → List Entry → ℕ → Type 0
RefusesClose fault.UnknownSession limits h session = is_open session h ≡ false
RefusesClose e limits h session = (is_open session h ≡ true) × LacksRoomAfter e limits h (Close session ∷ [])

-- ---- messages

-- the cuts that a message or an advance of the clock makes, and the entry itself
abbrev pub with_cuts_after : {Q : Type 0} → Engine Q → List Entry → Entry → List Entry
with_cuts_after e h entry = cuts_before e.limits h entry (waiting_of e) ++ entry ∷ []

-- the message is the next of its session, the audit holds it, it and its cuts are accepted, and this is its receipt
pub record ReceivesAfter {Q : Type 0} (e : Engine Q) (session number : ℕ) (octets : List ℕ) (r : Receipt) (h : List Entry) (accepted : List Entry → Type 0) : Type 0 where
  pub next : IsNext h session number
  pub meaning : Meaning
  pub means : meaning_of (messages_of session h) octets ≡ Ok meaning
  pub audit : AuditHoldsAfter e h (with_cuts_after e h (Message session number octets))
  pub accepts : accepted (with_cuts_after e h (Message session number octets))
  pub receipt : r ≡ receipt_of (length h) (length (cuts_before e.limits h (Message session number octets) (waiting_of e))) meaning

-- the octets are a message of the session
pub record HasMeaning (h : List Entry) (session : ℕ) (octets : List ℕ) : Type 0 where
  pub meaning : Meaning
  pub means : meaning_of (messages_of session h) octets ≡ Ok meaning

-- first its own refusals, then the journal is judged, and then the audit, whose need and room are told
abbrev pub RefusesReceiveAfter : {Q : Type 0} → Fault → JournalLimits → Engine Q → List Entry → ℕ → ℕ → List ℕ → Type 0
RefusesReceiveAfter fault.JournalFull limits e h session number octets =
    IsNext h session number × HasMeaning h session octets × (HasRoomAfter limits h (with_cuts_after e h (Message session number octets)) → ⊥)
RefusesReceiveAfter (fault.AuditFull need room) limits e h session number octets =
    IsNext h session number × HasMeaning h session octets × HasRoomAfter limits h (with_cuts_after e h (Message session number octets))
    × ((noted : List AuditEntry) × (audit_list (h ++ with_cuts_after e h (Message session number octets)) ≡ audit_list h ++ noted) × (need ≡ length noted))
    × (room + e.audit.standing.waiting ≡ e.audit.limit) × (room < need)
RefusesReceiveAfter why limits e h session number octets = RefusesMessage why h session number octets

-- what is received of a message that was prepared elsewhere: refused as the message itself is, but never for its octets, and
-- where the session has other templates than those by which it was prepared
abbrev pub RefusesReceivePreparedAfter : {Q : Type 0} → Fault → JournalLimits → Engine Q → List Entry → ℕ → ℕ → Preparation → Type 0
RefusesReceivePreparedAfter fault.Stale limits e h session number p = IsNext h session number × (AgreesWith (messages_of session h) p → ⊥)
RefusesReceivePreparedAfter (fault.Malformed why) limits e h session number p = ⊥
RefusesReceivePreparedAfter why limits e h session number p = RefusesReceiveAfter why limits e h session number p.message

-- the session is open, and these templates are in force after its messages
pub record IsSnapshot (h : List Entry) (session : ℕ) (snapshot : List (ℕ × List (ℕ × Template))) : Type 0 where
  pub opened : is_open session h ≡ true
  pub knows : Knows snapshot (messages_of session h)

abbrev pub RefusesSnapshot : Fault → List Entry → ℕ → Type 0
RefusesSnapshot fault.UnknownSession h session = is_open session h ≡ false
RefusesSnapshot fault.OutOfMemory h session = is_open session h ≡ true
RefusesSnapshot _ h session = ⊥

-- ---- the clock

-- the time isn't before that of the last advance, the audit holds the advance's cuts, and both are accepted
pub record AdvancesAfter {Q : Type 0} (e : Engine Q) (t : ℕ) (h : List Entry) (accepted : List Entry → Type 0) : Type 0 where
  pub ahead : clock_of h ≤ t
  pub audit : AuditHoldsAfter e h (with_cuts_after e h (Advance t))
  pub accepts : accepted (with_cuts_after e h (Advance t))

-- the clock stands later; else the journal is judged, and then the audit, whose need and room are told; memory runs out only where
-- the clock doesn't stand later
abbrev pub RefusesAdvanceAfter : {Q : Type 0} → Fault → JournalLimits → Engine Q → List Entry → ℕ → Type 0
RefusesAdvanceAfter (fault.ClockBack last) limits e h t = (last ≡ clock_of h) × (t < last)
RefusesAdvanceAfter fault.JournalFull limits e h t = (clock_of h ≤ t) × (HasRoomAfter limits h (with_cuts_after e h (Advance t)) → ⊥)
RefusesAdvanceAfter (fault.AuditFull need room) limits e h t =
    (clock_of h ≤ t) × HasRoomAfter limits h (with_cuts_after e h (Advance t))
    × ((noted : List AuditEntry) × (audit_list (h ++ with_cuts_after e h (Advance t)) ≡ audit_list h ++ noted) × (need ≡ length noted))
    × (room + e.audit.standing.waiting ≡ e.audit.limit) × (room < need)
RefusesAdvanceAfter fault.OutOfMemory limits e h t = clock_of h ≤ t
RefusesAdvanceAfter _ limits e h t = ⊥

-- ---- policies

-- its revision is the number of edits so far
pub record EditsAfter (text : List ℕ) (n : ℕ) (h : List Entry) (accepted : List Entry → Type 0) : Type 0 where
  pub policy : Policy
  pub spelled : policy_of text ≡ Ok policy
  pub revision : n ≡ edits_made h + 1
  pub accepts : accepted (Edit text ∷ [])

pub record HasPolicy (text : List ℕ) : Type 0 where
  pub policy : Policy
  pub spelled : policy_of text ≡ Ok policy

-- the text has this fault
abbrev pub RefusesPolicy : Fault → List ℕ → Type 0
RefusesPolicy (fault.Policy why) text = policy_of text ≡ Err why
RefusesPolicy fault.OutOfMemory text = Unit {0}
RefusesPolicy _ text = ⊥

abbrev pub RefusesEdit : Fault → JournalLimits → List Entry → List ℕ → Type 0
RefusesEdit fault.JournalFull limits h text = HasPolicy text × LacksRoomAfter fault.JournalFull limits h (Edit text ∷ [])
RefusesEdit e limits h text = RefusesPolicy e text

-- ---- subscriptions

-- no live subscription has the name
abbrev pub IsFree : List Entry → List ℕ → Type 0
IsFree h name = (sub : ℕ) → is_live sub h ≡ true → name_of sub h ≢ name

-- the next number, from 1 on
pub record SubscribesAfter (name : List ℕ) (n : ℕ) (h : List Entry) (accepted : List Entry → Type 0) : Type 0 where
  pub named : is_name name ≡ true
  pub free : IsFree h name
  pub number : n ≡ subscriptions_begun h + 1
  pub accepts : accepted (Subscribe n name ∷ [])

abbrev pub RefusesSubscribe : Fault → JournalLimits → List Entry → List ℕ → Type 0
RefusesSubscribe fault.BadName limits h name = is_name name ≡ false
RefusesSubscribe (fault.AlreadySubscribed sub) limits h name = (is_name name ≡ true) × (is_live sub h ≡ true) × (name_of sub h ≡ name)
RefusesSubscribe fault.OutOfMemory limits h name = (is_name name ≡ true) × IsFree h name
RefusesSubscribe e limits h name = (is_name name ≡ true) × IsFree h name × LacksRoomAfter e limits h (Subscribe (subscriptions_begun h + 1) name ∷ [])

pub record UnsubscribesAfter (sub : ℕ) (h : List Entry) (accepted : List Entry → Type 0) : Type 0 where
  pub live : is_live sub h ≡ true
  pub accepts : accepted (Unsubscribe sub ∷ [])

abbrev pub RefusesUnsubscribe : Fault → JournalLimits → List Entry → ℕ → Type 0
RefusesUnsubscribe fault.UnknownSub limits h sub = is_live sub h ≡ false
RefusesUnsubscribe e limits h sub = (is_live sub h ≡ true) × LacksRoomAfter e limits h (Unsubscribe sub ∷ [])

-- ---- what is handed out

-- the message built at the place up to which the parts of what is disclosed were handed out, which then moves past it
pub record PullsAfter {Q : Type 0} (old new : Engine Q) (sub now target : ℕ) (answer : Option (List ℕ)) (h : List Entry) : Type 0 where
  pub live : is_live sub h ≡ true
  pub message : answer ≡ built (disclosed sub h) (handed_place old sub) now target
  pub moved : handed_place new sub ≡ place_after (disclosed sub h) (handed_place old sub) target

abbrev pub RefusesPull : Fault → List Entry → ℕ → Type 0
RefusesPull fault.UnknownSub h sub = is_live sub h ≡ false
RefusesPull fault.OutOfMemory h sub = is_live sub h ≡ true
RefusesPull _ h sub = ⊥

-- what waits, what was handed out, the templates, and whether it was cut
pub record IsStatus (h : List Entry) (sub place : ℕ) (s : Status) : Type 0 where
  pub live : is_live sub h ≡ true
  pub queued : s.queued ≡ length (records_of_parts (drop place (parts (disclosed sub h))))
  pub handed : s.handed ≡ length (records_of_parts (take place (parts (disclosed sub h))))
  pub shapes : s.shapes ≡ length (shapes_of (disclosed sub h))
  pub cut : s.cut ≡ not (is_served sub h)
