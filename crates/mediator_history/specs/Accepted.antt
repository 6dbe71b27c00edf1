-- The records that were accepted.
use Rattle.std.specs.Prelude.{ℕ, List, [], length, map, Result, Ok, Err}
use Rattle.std.specs.List.{enumerate_from}
use Rattle.sequences.specs.Before.{each_with_before}
use Rattle.ipfix_template.specs.DataRecord.{DataRecord}
use Rattle.ipfix_session.specs.Meaning.{Meaning, meaning_of, domain_of}
use Rattle.ipfix_session.specs.declared.fault.Fault.{Fault as ReadError}
use Rattle.event_journal.specs.declared.entry.Entry.{Entry}
use Rattle.event_journal.specs.declared.entry.Entry.TheVariants.{Message}
use Rattle.mediator_history.specs.Sessions.{messages_of}

abbrev pub records_meant : Result Meaning ReadError → List DataRecord
records_meant (Ok m) = m.records
records_meant (Err e) = []

-- the records of an entry, by what stands before it: those that its message means after the session's earlier ones
abbrev pub records_at : List Entry → Entry → List DataRecord
records_at before (Message session number octets) = records_meant (meaning_of (messages_of session before) octets)
records_at before _ = []

-- a record with its message's position, its index in the message, its session and its Observation Domain
pub record AcceptedRecord : Type 0 where
  pub position : ℕ
  pub index : ℕ
  pub session : ℕ
  pub domain : ℕ
  pub flow : DataRecord

abbrev pub accepted_as : ℕ → ℕ → ℕ → (ℕ × DataRecord) → AcceptedRecord
accepted_as position session domain r = record { position = position; index = r.0; session = session; domain = domain; flow = r.1 }

abbrev pub accepted_at : List Entry → Entry → List AcceptedRecord
accepted_at before (Message session number octets) =
    map (accepted_as (length before) session (domain_of octets)) (enumerate_from 0 (records_at before (Message session number octets)))
accepted_at before _ = []

-- all accepted records, in the order of position and index
abbrev pub accepted : List Entry → List AcceptedRecord
accepted h = each_with_before accepted_at h
