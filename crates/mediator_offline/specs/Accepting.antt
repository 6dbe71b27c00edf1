-- Which messages a run accepts after a history, and how it refuses one.
use Rattle.std.specs.Prelude.{◌≡◌, ℕ, ◌<◌, List, [], ◌∷◌, ◌++◌, length, Ok, Err}
use Rattle.ipfix_session.specs.Meaning.{Meaning, meaning_of}
use Rattle.disclosure_audit.specs.declared.entry.AuditEntry.{AuditEntry}
use Rattle.event_journal.specs.declared.entry.Entry.{Entry}
use Rattle.event_journal.specs.Room.{HasRoomAfter}
use Rattle.mediator_history.specs.Sessions.{messages_of}
use Rattle.mediator_history.specs.Auditing.{audit_list}
use Rattle.mediator_state.specs.declared.fault.Fault.{Fault as MediatorFault}
use Rattle.mediator_state.specs.declared.fault.Fault.TheVariants as fault
use Rattle.mediator_state.specs.Calls.{HasMeaning}
use Rattle.mediator_offline.specs.declared.job.OfflineJob.{OfflineJob}
use Rattle.mediator_offline.specs.Offline.{audit_limit, offline_journal_limits, next_message, cuts_by, after_message, history_of}

-- the octets can be read as the next message of the session, and the journal has room for the cuts that it makes and for itself
pub record AcceptsMessage (h : List Entry) (octets : List ℕ) : Type 0 where
  pub meaning : Meaning
  pub means : meaning_of (messages_of 1 h) octets ≡ Ok meaning
  pub room : HasRoomAfter offline_journal_limits h (cuts_by h octets ++ next_message h octets ∷ [])

-- a message is refused so after a history, of which nothing waits in the audit: it is read first, then the journal's room is
-- judged, and then the audit's
abbrev pub RefusesOctets : MediatorFault → List Entry → List ℕ → Type 0
RefusesOctets (fault.Malformed why) h octets = meaning_of (messages_of 1 h) octets ≡ Err why
RefusesOctets fault.JournalFull h octets = HasMeaning h 1 octets × (HasRoomAfter offline_journal_limits h (cuts_by h octets ++ next_message h octets ∷ []) → ⊥)
RefusesOctets (fault.AuditFull need room) h octets =
    AcceptsMessage h octets × ((d : List AuditEntry) × (audit_list (after_message h octets) ≡ audit_list h ++ d) × (need ≡ length d)) × (room ≡ audit_limit) × (room < need)
RefusesOctets fault.OutOfMemory h octets = Unit {0}
RefusesOctets _ h octets = ⊥

-- each message is accepted after those before it, and cuts nobody
abbrev pub AreAccepted : OfflineJob → List (List ℕ) → List (List ℕ) → Type 0
AreAccepted job before [] = Unit {0}
AreAccepted job before (octets ∷ messages) = (AcceptsMessage (history_of job before) octets × (cuts_by (history_of job before) octets ≡ [])) × AreAccepted job (before ++ octets ∷ []) messages
