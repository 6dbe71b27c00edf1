-- How far a run over a whole stream has come.
use Rattle.std.specs.Prelude.{◌≡◌, ℕ, ◌+◌, ◌*◌, ◌≤◌, List, ◌∷◌, ◌++◌, length, None, []}
use Rattle.std.specs.List.{concat}
use Rattle.std.specs.Io.KnownBytes.{Appends, Consumes, IsAtEnd}
use Rattle.ipfix_message.specs.Framing.{IsFramed}
use Rattle.ipfix_reader.specs.Intake.{IntakeState}
use Rattle.mediator_offline.specs.declared.job.OfflineJob.{OfflineJob}
use Rattle.mediator_offline.specs.declared.job.Fault.{Fault}
use Rattle.mediator_offline.specs.declared.run.OfflineRun.{OfflineRun}
use Rattle.mediator_offline.specs.Ports.{Outputs, Ports}
use Rattle.mediator_offline.specs.Offline.{history_of, due, audit_due}
use Rattle.ipfix_reader.specs.Intake.{AreReadBut}
use Rattle.mediator_offline.specs.Accepting.{AcceptsMessage}
use Rattle.mediator_offline.specs.Filtering.{Filters, StopsAtMessage}
use Rattle.mediator_offline.specs.Running.{IsRunning}

-- messages in a row were handled, whatever was before them
pub record HandlesAll {Q : Type 0} (old new : OfflineRun Q) (more : List (List ℕ)) (before after : Outputs) : Type 0 where
  pub running : (job : OfflineJob) (messages : List (List ℕ)) (first : Outputs) → IsRunning old job messages first before
      → IsRunning new job (messages ++ more) first after

-- the run stops at one of them, and filtered those before it
pub record StopsAmong {Q : Type 0} (e : Fault) (old : OfflineRun Q) (more : List (List ℕ)) (before after : Outputs) : Type 0 where
  pub done : List (List ℕ)
  pub message : List ℕ
  pub later : List (List ℕ)
  pub parts : more ≡ done ++ message ∷ later
  pub stops : (job : OfflineJob) (messages : List (List ℕ)) (first : Outputs) → IsRunning old job messages first before
      → Filters job (messages ++ done) (due job (messages ++ done))
      × StopsAtMessage e job (messages ++ done) (due job (messages ++ done)) message first after

-- this message was the last one that was handled, behind others; what is due for all of them ends with so many octets. The lines of
-- the audit are due up to it, since it adds none
pub record WritesLast (job : OfflineJob) (messages : List (List ℕ)) (octets : List ℕ) (sent : ℕ) (first after : Outputs) : Type 0 where
  pub filters : Filters job messages (due job messages)
  pub accepts : AcceptsMessage (history_of job messages) octets
  pub counted : sent ≡ length (concat (due job (messages ++ octets ∷ [])))
  pub stream : Appends first.written after.written (concat (due job (messages ++ octets ∷ [])))
  pub audit : Appends first.audited after.audited (audit_due job messages)

-- one of these messages was the last one that was handled
pub record HandlesLast {Q : Type 0} (old : OfflineRun Q) (sent : ℕ) (all : List (List ℕ)) (before after : Outputs) : Type 0 where
  pub done : List (List ℕ)
  pub message : List ℕ
  pub later : List (List ℕ)
  pub parts : all ≡ done ++ message ∷ later
  pub sound : after.audit_failed ≡ before.audit_failed
  pub handled : (job : OfflineJob) (messages : List (List ℕ)) (first : Outputs) → IsRunning old job messages first before
      → WritesLast job (messages ++ done) message sent first after

-- a run and an intake after what was read
pub record IsAfter {Q : Type 0} (d : OfflineRun Q) (i : IntakeState) (job : OfflineJob) (before after : Ports) : Type 0 where
  pub octets : List ℕ
  pub messages : List (List ℕ)
  pub taken : Consumes before.left after.left octets
  pub running : IsRunning d job messages before.outputs after.outputs
  pub framed : IsFramed octets messages i.framing.fault i.framing.pending
  pub many : job.turns ≤ length octets + i.turns
  pub most : i.most ≡ 65536
  pub few : length octets + 65536 * i.turns ≤ 65536 * job.turns

-- all was read, and all messages were handled
pub record ReachesEnd {Q : Type 0} (d : OfflineRun Q) (job : OfflineJob) (before after : Ports) : Type 0 where
  pub octets : List ℕ
  pub messages : List (List ℕ)
  pub taken : Consumes before.left after.left octets
  pub end : IsAtEnd after.left
  pub framed : IsFramed octets messages None []
  pub turns : AreReadBut 65536 job.turns octets
  pub running : IsRunning d job messages before.outputs after.outputs
