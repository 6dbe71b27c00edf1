-- What `offline` does with its ports: what it read, what it wrote, and where it stops.
use Rattle.std.specs.Prelude.{◌≡◌, ◌⊎◌, ℕ, ◌+◌, ◌<◌, ◌≤◌, true, List, [], ◌∷◌, ◌++◌, length, Option, Some, None}
use Rattle.std.specs.List.{concat}
use Rattle.std.specs.Io.KnownBytes.{Appends, Consumes, IsAtEnd}
use Rattle.octet_io.specs.Written.{WritesFront}
use Rattle.ipfix_message.specs.declared.fault.Fault.{Fault as DecodeError}
use Rattle.ipfix_message.specs.declared.fault.Fault.TheVariants as frame
use Rattle.ipfix_message.specs.Framing.{IsFramed}
use Rattle.stream_meaning.specs.Means.{Means}
use Rattle.event_journal.specs.declared.entry.Entry.TheVariants.{Cut as CutEntry}
use Rattle.mediator_history.specs.Accepted.{accepted}
use Rattle.mediator_state.specs.declared.fault.Fault.{Fault as MediatorFault}
use Rattle.mediator_state.specs.declared.fault.Fault.TheVariants as fault
use Rattle.ipfix_reader.specs.declared.fault.FramingFault.TheVariants as framing
use Rattle.ipfix_reader.specs.Intake.{AreRead, AreReadBut}
use Rattle.mediator_offline.specs.declared.job.OfflineJob.{OfflineJob}
use Rattle.mediator_offline.specs.declared.job.OfflineReport.{OfflineReport}
use Rattle.mediator_offline.specs.declared.job.Fault.{Fault}
use Rattle.mediator_offline.specs.declared.job.Fault.TheVariants.{Read, Write, Framing, Turns, Mediator, Cut, AuditWrite}
use Rattle.mediator_offline.specs.Ports.{Outputs, Ports}
use Rattle.mediator_offline.specs.Lines.{WritesOn}
use Rattle.mediator_offline.specs.Offline.{cuts_by, history_of, disclosed_by, audit_due}
use Rattle.mediator_offline.specs.Due.{IsWrittenFor}
use Rattle.mediator_offline.specs.Opening.{IsAcceptedJob, RefusesJob}
use Rattle.mediator_offline.specs.Accepting.{AcceptsMessage, RefusesOctets, AreAccepted}

-- the messages are accepted, one after another, and these are due for them; they mean what is disclosed of them
pub record Filters (job : OfflineJob) (messages written : List (List ℕ)) : Type 0 where
  pub accepted : AreAccepted job [] messages
  pub due : IsWrittenFor job [] 0 messages written
  pub means : Means written (disclosed_by job messages)

-- these messages were written, and these lines
pub record Writes (before after : Outputs) (messages : List (List ℕ)) (lines : List ℕ) : Type 0 where
  pub stream : Appends before.written after.written (concat messages)
  pub audit : Appends before.audited after.audited lines

-- the job is accepted, these octets are these messages, and then this fault or these octets that are pending; all messages
-- were filtered, and what is due was written
pub record IsFiltered (job : OfflineJob) (octets : List ℕ) (messages : List (List ℕ)) (fault : Option DecodeError) (pending : List ℕ) (before after : Outputs) : Type 0 where
  pub job_accepted : IsAcceptedJob job
  pub framed : IsFramed octets messages fault pending
  pub written : List (List ℕ)
  pub filters : Filters job messages written
  pub writes : Writes before after written (audit_due job messages)

-- all was read within the reads that are allowed, and filtered; the report counts messages, records and what was disclosed
pub record FiltersAll (job : OfflineJob) (report : OfflineReport) (before after : Ports) : Type 0 where
  pub octets : List ℕ
  pub messages : List (List ℕ)
  pub taken : Consumes before.left after.left octets
  pub end : IsAtEnd after.left
  pub turns : AreReadBut 65536 job.turns octets
  pub done : IsFiltered job octets messages None [] before.outputs after.outputs
  pub counted : report.messages ≡ length messages
  pub recorded : report.records ≡ length (accepted (history_of job messages))
  pub disclosed : report.disclosed ≡ length (disclosed_by job messages)

-- ---- where it stops

-- of what is due for the message in hand, whole messages were written, and a front of the lines
pub record WritesPart (job : OfflineJob) (messages written : List (List ℕ)) (octets : List ℕ) (before after : Outputs) : Type 0 where
  pub handed : List (List ℕ)
  pub others : List (List ℕ)
  pub due : IsWrittenFor job [] 0 (messages ++ octets ∷ []) (written ++ (handed ++ others))
  pub stream : Appends before.written after.written (concat (written ++ handed))
  pub audit : WritesOn before.audited after.audited (audit_due job messages) (audit_due job (messages ++ octets ∷ []))

-- the run stops at the message in hand: it is refused; or it is accepted, and then cuts the subscription, or a device fails, or
-- memory runs out. These were due for the messages before it, and were written
abbrev pub StopsAtMessage : Fault → OfflineJob → List (List ℕ) → List (List ℕ) → List ℕ → Outputs → Outputs → Type 0
StopsAtMessage (Mediator fault.OutOfMemory) job messages written octets before after = WritesPart job messages written octets before after
StopsAtMessage (Mediator why) job messages written octets before after = RefusesOctets why (history_of job messages) octets × Writes before after written (audit_due job messages)
StopsAtMessage (Write sent) job messages written octets before after =
    AcceptsMessage (history_of job messages) octets
    × ((all : List (List ℕ)) × IsWrittenFor job [] 0 (messages ++ octets ∷ []) all × WritesFront before.written after.written (concat all) sent after.writer_failed)
    × Appends before.audited after.audited (audit_due job messages)
StopsAtMessage Cut job messages written octets before after =
    AcceptsMessage (history_of job messages) octets × (cuts_by (history_of job messages) octets ≡ CutEntry 1 ∷ []) × Writes before after written (audit_due job (messages ++ octets ∷ []))
StopsAtMessage AuditWrite job messages written octets before after =
    AcceptsMessage (history_of job messages) octets
    × ((all : List (List ℕ)) × IsWrittenFor job [] 0 (messages ++ octets ∷ []) all × Appends before.written after.written (concat all))
    × WritesOn before.audited after.audited (audit_due job messages) (audit_due job (messages ++ octets ∷ [])) × (after.audit_failed ≡ true)
StopsAtMessage _ job messages written octets before after = ⊥

-- the job and the messages before the one in hand are accepted, and the run stops there
pub record StopsAtOne (e : Fault) (job : OfflineJob) (octets : List ℕ) (before after : Outputs) : Type 0 where
  pub messages : List (List ℕ)
  pub message : List ℕ
  pub later : List (List ℕ)
  pub fault : Option DecodeError
  pub pending : List ℕ
  pub job_accepted : IsAcceptedJob job
  pub framed : IsFramed octets (messages ++ message ∷ later) fault pending
  pub written : List (List ℕ)
  pub filters : Filters job messages written
  pub stops : StopsAtMessage e job messages written message before after

-- a piece that was read last found no memory; the octets before it were filtered
pub record LosesLastPiece (why : MediatorFault) (job : OfflineJob) (octets : List ℕ) (before after : Outputs) : Type 0 where
  pub memory : why ≡ fault.OutOfMemory
  pub fed : List ℕ
  pub piece : List ℕ
  pub parts : octets ≡ fed ++ piece
  pub few : length piece ≤ 65536
  pub messages : List (List ℕ)
  pub pending : List ℕ
  pub done : IsFiltered job fed messages None pending before after

-- where a run stops that has read these octets, and by what cause
abbrev pub StopsHere : Fault → OfflineJob → List ℕ → Ports → Ports → Type 0
StopsHere Read job octets before after =
    ((messages : List (List ℕ)) × (pending : List ℕ) × IsFiltered job octets messages None pending before.outputs after.outputs) × AreReadBut 65536 job.turns octets × (after.reader_failed ≡ true)
StopsHere Turns job octets before after =
    ((messages : List (List ℕ)) × (pending : List ℕ) × IsFiltered job octets messages None pending before.outputs after.outputs) × (job.turns ≤ length octets) × AreRead 65536 job.turns octets
StopsHere (Framing framing.CutOff) job octets before after =
    ((messages : List (List ℕ)) × (pending : List ℕ) × IsFiltered job octets messages None pending before.outputs after.outputs × (0 < length pending)) × AreReadBut 65536 job.turns octets × IsAtEnd after.left
StopsHere (Framing framing.BadVersion) job octets before after = ((messages : List (List ℕ)) × IsFiltered job octets messages (Some frame.BadVersion) [] before.outputs after.outputs) × AreRead 65536 job.turns octets
StopsHere (Framing framing.BadLength) job octets before after = ((messages : List (List ℕ)) × IsFiltered job octets messages (Some frame.BadLength) [] before.outputs after.outputs) × AreRead 65536 job.turns octets
StopsHere (Mediator why) job octets before after = (StopsAtOne (Mediator why) job octets before.outputs after.outputs ⊎ LosesLastPiece why job octets before.outputs after.outputs) × AreRead 65536 job.turns octets
StopsHere e job octets before after = StopsAtOne e job octets before.outputs after.outputs × AreRead 65536 job.turns octets

-- the job is refused, and nothing was read or written
pub record RefusesAll (e : Fault) (job : OfflineJob) (before after : Ports) : Type 0 where
  pub why : MediatorFault
  pub is : e ≡ Mediator why
  pub refuses : RefusesJob why job
  pub taken : Consumes before.left after.left []
  pub writes : Writes before.outputs after.outputs [] []

-- octets were read, and the run stops so
pub record StopsSomewhere (e : Fault) (job : OfflineJob) (before after : Ports) : Type 0 where
  pub octets : List ℕ
  pub taken : Consumes before.left after.left octets
  pub stops : StopsHere e job octets before after

-- why a run doesn't filter all, and what it read and wrote
abbrev pub FailsToFilter : Fault → OfflineJob → Ports → Ports → Type 0
FailsToFilter e job before after = RefusesAll e job before after ⊎ StopsSomewhere e job before after
