-- What the calls of a mediator answer, and what they leave.
use Rattle.std.specs.Prelude.{◌≡◌, ◌≢◌, ℕ, ◌+◌, ◌<◌, ◌≤◌, ◌^◌, true, List, [], ◌∷◌, ◌++◌, length, take, drop, Option, Ok}
use Rattle.ipfix_session.specs.Meaning.{Meaning, meaning_of}
use Rattle.policy_text.specs.Policies.{PolicyMeaning as Policy}
use Rattle.policy_text.specs.Parsing.{policy_of}
use Rattle.policy_text.specs.Naming.{is_name}
use Rattle.subscriber_stream.specs.Message.{built, place_after}
use Rattle.disclosure_audit.specs.declared.entry.AuditEntry.{AuditEntry}
use Rattle.event_journal.specs.declared.entry.Entry.{Entry}
use Rattle.event_journal.specs.declared.entry.Entry.TheVariants.{Open, Close, Message, Edit, Subscribe, Unsubscribe, Advance}
use Rattle.event_journal.specs.Room.{HasRoomAfter}
use Rattle.mediator_history.specs.Sessions.{is_open, messages_of, sessions_opened}
use Rattle.mediator_history.specs.Subscriptions.{edits_made, is_live, subscriptions_begun}
use Rattle.mediator_history.specs.Counting.{clock_of}
use Rattle.mediator_history.specs.Disclosed.{disclosed}
use Rattle.mediator_history.specs.Auditing.{audit_list}
use Rattle.mediator_history.specs.Cuts.{cuts_before}
use Rattle.prepared_message.specs.Preparation.{Preparation, AgreesWith}
use Rattle.mediator_state.specs.declared.fault.Fault.{Fault}
use Rattle.mediator_state.specs.declared.fault.Fault.TheVariants as fault
use Rattle.mediator_state.specs.declared.receipt.Receipt.{Receipt}
use Rattle.mediator_state.specs.declared.receipt.Status.{Status}
use Rattle.mediator_state.specs.Planning.{IsNext, RefusesMessage}
use Rattle.mediator_state.specs.Accepting.{receipt_of}
use Rattle.mediator_state.specs.Calls.{LacksRoomAfter, HasMeaning, IsFree, IsStatus}
use Rattle.mediator_calls.specs.Mediation.{Mediation, place_at, waiting_at, noted_at, stream_limits, journal_limits}

-- behind the history there was room for these entries, and it goes on with them; nothing is handed out or drained
pub record GoesOn (old : Mediation) (more : List Entry) (new : Mediation) : Type 0 where
  pub room : HasRoomAfter (journal_limits old.limits) old.history more
  pub history : new.history ≡ old.history ++ more
  pub places : (sub : ℕ) → is_live sub new.history ≡ true → place_at new sub ≡ place_at old sub
  pub drained : new.drained ≡ old.drained
  pub limits : new.limits ≡ old.limits

-- ---- sessions

-- the next number, from 1 on
pub record Opens (old : Mediation) (n : ℕ) (new : Mediation) : Type 0 where
  pub number : n ≡ sessions_opened old.history + 1
  pub goes_on : GoesOn old (Open n ∷ []) new

abbrev pub RefusesOpen : Fault → Mediation → Type 0
RefusesOpen e m = LacksRoomAfter e (journal_limits m.limits) m.history (Open (sessions_opened m.history + 1) ∷ [])

pub record Closes (old : Mediation) (session : ℕ) (new : Mediation) : Type 0 where
  pub opened : is_open session old.history ≡ true
  pub goes_on : GoesOn old (Close session ∷ []) new

-- ---- messages

-- the cuts that a message or an advance of the clock makes, in the order of the subscriptions' numbers
abbrev pub cuts_of : Mediation → Entry → List Entry
cuts_of m entry = cuts_before (stream_limits m.limits) m.history entry (waiting_at m)

-- these cuts, and the entry itself
abbrev pub with_cuts : Mediation → Entry → List Entry
with_cuts m entry = cuts_of m entry ++ entry ∷ []

-- what waits to be drained is no more than the audit's limit, before these entries and with what it names of them
pub record AuditHolds (m : Mediation) (more : List Entry) : Type 0 where
  pub before : length (noted_at m) ≤ m.limits.audit
  pub after : length (drop m.drained (audit_list (m.history ++ more))) ≤ m.limits.audit

-- the message is the next of its session, the audit holds it, it and its cuts are accepted, and this is its receipt
pub record Receives (old : Mediation) (session number : ℕ) (octets : List ℕ) (r : Receipt) (new : Mediation) : Type 0 where
  pub next : IsNext old.history session number
  pub meaning : Meaning
  pub means : meaning_of (messages_of session old.history) octets ≡ Ok meaning
  pub audit : AuditHolds old (with_cuts old (Message session number octets))
  pub goes_on : GoesOn old (with_cuts old (Message session number octets)) new
  pub receipt : r ≡ receipt_of (length old.history) (length (cuts_of old (Message session number octets))) meaning

-- first its own refusals, then the journal is judged, and then the audit, whose need and room are told
abbrev pub RefusesReceive : Fault → Mediation → ℕ → ℕ → List ℕ → Type 0
RefusesReceive fault.JournalFull m session number octets =
    IsNext m.history session number × HasMeaning m.history session octets × (HasRoomAfter (journal_limits m.limits) m.history (with_cuts m (Message session number octets)) → ⊥)
RefusesReceive (fault.AuditFull need room) m session number octets =
    IsNext m.history session number × HasMeaning m.history session octets × HasRoomAfter (journal_limits m.limits) m.history (with_cuts m (Message session number octets))
    × ((noted : List AuditEntry) × (audit_list (m.history ++ with_cuts m (Message session number octets)) ≡ audit_list m.history ++ noted) × (need ≡ length noted))
    × (room + length (noted_at m) ≡ m.limits.audit) × (room < need)
RefusesReceive why m session number octets = RefusesMessage why m.history session number octets

-- the same of a message that was prepared elsewhere: never for its octets, and Stale where the session has other templates than
-- those by which it was prepared
abbrev pub RefusesReceivePrepared : Fault → Mediation → ℕ → ℕ → Preparation → Type 0
RefusesReceivePrepared fault.Stale m session number p = IsNext m.history session number × (AgreesWith (messages_of session m.history) p → ⊥)
RefusesReceivePrepared (fault.Malformed why) m session number p = ⊥
RefusesReceivePrepared why m session number p = RefusesReceive why m session number p.message

-- ---- the clock

-- the time isn't before that of the last advance, the audit holds the advance's cuts, and both are accepted
pub record Advances (old : Mediation) (t : ℕ) (new : Mediation) : Type 0 where
  pub ahead : clock_of old.history ≤ t
  pub audit : AuditHolds old (with_cuts old (Advance t))
  pub goes_on : GoesOn old (with_cuts old (Advance t)) new

-- the clock stands later; else the journal is judged, and then the audit, whose need and room are told; memory runs out only
-- where the clock doesn't stand later
abbrev pub RefusesAdvance : Fault → Mediation → ℕ → Type 0
RefusesAdvance (fault.ClockBack last) m t = (last ≡ clock_of m.history) × (t < last)
RefusesAdvance fault.JournalFull m t = (clock_of m.history ≤ t) × (HasRoomAfter (journal_limits m.limits) m.history (with_cuts m (Advance t)) → ⊥)
RefusesAdvance (fault.AuditFull need room) m t =
    (clock_of m.history ≤ t) × HasRoomAfter (journal_limits m.limits) m.history (with_cuts m (Advance t))
    × ((noted : List AuditEntry) × (audit_list (m.history ++ with_cuts m (Advance t)) ≡ audit_list m.history ++ noted) × (need ≡ length noted))
    × (room + length (noted_at m) ≡ m.limits.audit) × (room < need)
RefusesAdvance fault.OutOfMemory m t = clock_of m.history ≤ t
RefusesAdvance _ m t = ⊥

-- ---- policies

-- its revision is the number of edits so far
pub record Edits (old : Mediation) (text : List ℕ) (n : ℕ) (new : Mediation) : Type 0 where
  pub policy : Policy
  pub spelled : policy_of text ≡ Ok policy
  pub revision : n ≡ edits_made old.history + 1
  pub goes_on : GoesOn old (Edit text ∷ []) new

-- ---- subscriptions

-- the next number, from 1 on; nothing is handed out to it yet
pub record Subscribes (old : Mediation) (name : List ℕ) (n : ℕ) (new : Mediation) : Type 0 where
  pub named : is_name name ≡ true
  pub free : IsFree old.history name
  pub number : n ≡ subscriptions_begun old.history + 1
  pub goes_on : GoesOn old (Subscribe n name ∷ []) new
  pub start : place_at new n ≡ 0

pub record Unsubscribes (old : Mediation) (sub : ℕ) (new : Mediation) : Type 0 where
  pub live : is_live sub old.history ≡ true
  pub goes_on : GoesOn old (Unsubscribe sub ∷ []) new

-- ---- what is handed out

-- the message built at the subscription's place, which then moves past it; an Export Time is a number of 32 bits, a target one of 16
pub record Pulls (old : Mediation) (sub now target : ℕ) (answer : Option (List ℕ)) (new : Mediation) : Type 0 where
  pub time : now < 2 ^ 32
  pub size : target < 2 ^ 16
  pub live : is_live sub old.history ≡ true
  pub message : answer ≡ built (disclosed sub old.history) (place_at old sub) now target
  pub moved : place_at new sub ≡ place_after (disclosed sub old.history) (place_at old sub) target
  pub others : (q : ℕ) → q ≢ sub → place_at new q ≡ place_at old q
  pub history : new.history ≡ old.history
  pub drained : new.drained ≡ old.drained
  pub limits : new.limits ≡ old.limits

-- what waits, what was handed out, the templates, and whether it was cut
abbrev pub IsStatusOf : Mediation → ℕ → Status → Type 0
IsStatusOf m sub s = IsStatus m.history sub (place_at m sub) s

-- the oldest audit entries that wait, which wait no more
pub record Drains (old : Mediation) (most : ℕ) (out : List AuditEntry) (new : Mediation) : Type 0 where
  pub entries : out ≡ take most (noted_at old)
  pub drained : new.drained ≡ old.drained + length out
  pub history : new.history ≡ old.history
  pub places : (sub : ℕ) → place_at new sub ≡ place_at old sub
  pub limits : new.limits ≡ old.limits
