-- Runs: calls with their replies, one after another, and what they say of the history and of what each subscription was handed.
use Rattle.std.specs.Prelude.{◌≡◌, ℕ, Bool, true, false, ◌==◌, List, [], ◌∷◌, ◌++◌, Option, Some, None, Result, if◌then◌else◌, string_bytes}
use Rattle.subscriber_stream.specs.Calls.{Pull as Asked}
use Rattle.ipfix_template.specs.DataRecord.{DataRecord}
use Rattle.subscriber_stream.specs.Message.{built, place_after}
use Rattle.stream_meaning.specs.Served.{messages_in}
use Rattle.stream_meaning.specs.Means.{Means}
use Rattle.disclosure_audit.specs.declared.entry.AuditEntry.{AuditEntry}
use Rattle.event_journal.specs.declared.entry.Entry.{Entry}
use Rattle.event_journal.specs.declared.entry.Entry.TheVariants as entry
use Rattle.mediator_history.specs.Disclosed.{disclosed}
use Rattle.mediator_state.specs.declared.fault.Fault.{Fault}
use Rattle.mediator_state.specs.Calls.{RefusesClose, RefusesEdit, RefusesSubscribe, RefusesUnsubscribe, RefusesPull}
use Rattle.mediator_calls.specs.declared.call.Call.{Call}
use Rattle.mediator_calls.specs.declared.call.Call.TheVariants as call
use Rattle.mediator_calls.specs.declared.call.Reply.{Reply}
use Rattle.mediator_calls.specs.declared.call.Reply.TheVariants as reply
use Rattle.mediator_calls.specs.Mediation.{Mediation, journal_limits}
use Rattle.mediator_calls.specs.Calls.{Opens, RefusesOpen, Closes, Receives, RefusesReceive, Edits, Subscribes, Unsubscribes, Advances, RefusesAdvance, Pulls, IsStatusOf, Drains}
use Rattle.mediator_core.specs.Refusals.{RefusesStatus, RefusesDrain}

-- ---- a call and its reply

-- the call may be refused so
abbrev pub Refuses : Mediation → Call → Fault → Type 0
Refuses m call.Open why = RefusesOpen why m
Refuses m (call.Close session) why = RefusesClose why (journal_limits m.limits) m.history session.0
Refuses m (call.Receive session number message) why = RefusesReceive why m session.0 number message
Refuses m (call.Edit text) why = RefusesEdit why (journal_limits m.limits) m.history (string_bytes text)
Refuses m (call.Subscribe name) why = RefusesSubscribe why (journal_limits m.limits) m.history (string_bytes name)
Refuses m (call.Unsubscribe sub) why = RefusesUnsubscribe why (journal_limits m.limits) m.history sub.0
Refuses m (call.Advance t) why = RefusesAdvance why m t
Refuses m (call.Pull sub now target) why = RefusesPull why m.history sub.0
Refuses m (call.Status sub) why = RefusesStatus why m.history sub.0
Refuses m (call.DrainAudit most) why = RefusesDrain why

-- the call may be answered so, and the mediator goes on so; a refused call changes nothing
abbrev pub Answers : Mediation → Call → Reply → Mediation → Type 0
Answers old c (reply.Refused why) new = Refuses old c why × (new ≡ old)
Answers old call.Open (reply.Opened session) new = Opens old session.0 new
Answers old (call.Close session) reply.Closed new = Closes old session.0 new
Answers old (call.Receive session number message) (reply.Received receipt) new = Receives old session.0 number message receipt new
Answers old (call.Edit text) (reply.Edited revision) new = Edits old (string_bytes text) revision new
Answers old (call.Subscribe name) (reply.Subscribed sub) new = Subscribes old (string_bytes name) sub.0 new
Answers old (call.Unsubscribe sub) reply.Unsubscribed new = Unsubscribes old sub.0 new
Answers old (call.Advance t) reply.Advanced new = Advances old t new
Answers old (call.Pull sub now target) (reply.Pulled answer) new = Pulls old sub.0 now target answer new
Answers old (call.Status sub) (reply.Stands status) new = IsStatusOf old sub.0 status × (new ≡ old)
Answers old (call.DrainAudit most) (reply.Drained out) new = Drains old most out.items new
-- no other reply is given
Answers old _ _ new = ⊥

-- ---- calls in a row

-- the calls may be answered so, one after another
abbrev pub Runs : Mediation → List Call → List Reply → Mediation → Type 0
Runs old [] [] new = new ≡ old
Runs old (c ∷ calls) (r ∷ replies) new = (mid : Mediation) × Answers old c r mid × Runs mid calls replies new
Runs old [] (r ∷ replies) new = ⊥
Runs old (c ∷ calls) [] new = ⊥

-- what f gives at each call with its reply, joined
abbrev pub over_calls : {B : Type 0} → (Call → Reply → List B) → List Call → List Reply → List B
over_calls f [] replies = []
over_calls f (c ∷ calls) [] = []
over_calls f (c ∷ calls) (r ∷ replies) = f c r ++ over_calls f calls replies

-- ---- the history

-- the entry of an accepted call
abbrev pub entry_in : Call → Reply → List Entry
entry_in call.Open (reply.Opened session) = entry.Open session.0 ∷ []
entry_in (call.Close session) reply.Closed = entry.Close session.0 ∷ []
entry_in (call.Receive session number message) (reply.Received receipt) = entry.Message session.0 number message ∷ []
entry_in (call.Edit text) (reply.Edited revision) = entry.Edit (string_bytes text) ∷ []
entry_in (call.Subscribe name) (reply.Subscribed sub) = entry.Subscribe sub.0 (string_bytes name) ∷ []
entry_in (call.Unsubscribe sub) reply.Unsubscribed = entry.Unsubscribe sub.0 ∷ []
entry_in (call.Advance t) reply.Advanced = entry.Advance t ∷ []
entry_in _ _ = []

abbrev pub accepted_entries : List Call → List Reply → List Entry
accepted_entries calls replies = over_calls entry_in calls replies

-- an entry of a call, and no cut
abbrev pub is_of_call : Entry → Bool
is_of_call (entry.Cut sub) = false
is_of_call _ = true

-- ---- what a subscription was handed

-- the answer to a pull of the subscription
abbrev pub answer_in : ℕ → Call → Reply → List (Option (List ℕ))
answer_in sub (call.Pull s now target) (reply.Pulled answer) = if s.0 == sub then answer ∷ [] else []
answer_in sub _ _ = []

-- the answers to its pulls, in order
abbrev pub answers_to : ℕ → List Call → List Reply → List (Option (List ℕ))
answers_to sub calls replies = over_calls (answer_in sub) calls replies

-- the messages that it was handed
abbrev pub handed_to : ℕ → List Call → List Reply → List (List ℕ)
handed_to sub calls replies = messages_in (answers_to sub calls replies)

-- further pulls, each with its Export Time and target, give these messages, and the last of them gives none
abbrev pub GiveUntilNone : List DataRecord → ℕ → List (ℕ × ℕ) → List (List ℕ) → Type 0
GiveUntilNone records p [] messages = ⊥
GiveUntilNone records p (turn ∷ turns) [] = built records p turn.0 turn.1 ≡ None
GiveUntilNone records p (turn ∷ turns) (message ∷ messages) = (built records p turn.0 turn.1 ≡ Some message) × GiveUntilNone records (place_after records p turn.1) turns messages

-- the messages mean records with which the list begins
pub record MeanFront (messages : List (List ℕ)) (list : List DataRecord) : Type 0 where
  pub front : List DataRecord
  pub rest : List DataRecord
  pub list_is : list ≡ front ++ rest
  pub means : Means messages front

-- ---- what was drained

abbrev pub drained_in : Call → Reply → List AuditEntry
drained_in (call.DrainAudit most) (reply.Drained out) = out.items
drained_in _ _ = []

-- all audit entries that calls were handed
abbrev pub drained_by : List Call → List Reply → List AuditEntry
drained_by calls replies = over_calls drained_in calls replies

-- ---- secrecy

-- a pull that is answered, with all that was disclosed to the subscription before it
abbrev pub asked_in : ℕ → Mediation → Call → Reply → List Asked
asked_in sub m (call.Pull s now target) (reply.Pulled answer) = if s.0 == sub then record { now = now; target = target; records = disclosed sub m.history } ∷ [] else []
asked_in sub m _ _ = []

-- in a run of these calls, these are the answered pulls of the subscription, each with all that was disclosed to it by then
abbrev pub Ask : ℕ → Mediation → List Call → List Reply → Mediation → List Asked → Type 0
Ask sub old [] [] new asked = (new ≡ old) × (asked ≡ [])
Ask sub old (c ∷ calls) (r ∷ replies) new asked =
    (mid : Mediation) × (later : List Asked) × Answers old c r mid × (asked ≡ asked_in sub old c r ++ later) × Ask sub mid calls replies new later
Ask sub old [] (r ∷ replies) new asked = ⊥
Ask sub old (c ∷ calls) [] new asked = ⊥
