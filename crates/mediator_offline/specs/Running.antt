-- A run over messages: what was written for those that were handled, and where it stops at one.
use Rattle.std.specs.Prelude.{◌≡◌, ℕ, ◌*◌, ◌≤◌, List, [], ◌∷◌, ◌++◌, length}
use Rattle.std.specs.List.{concat}
use Rattle.ipfix_octets.specs.MessageFormat.{longest_message}
use Rattle.stream_meaning.specs.HandedOut.{AreHandedOut}
use Rattle.mediator_offline.specs.declared.job.OfflineJob.{OfflineJob}
use Rattle.mediator_offline.specs.declared.job.Fault.{Fault}
use Rattle.mediator_offline.specs.declared.run.OfflineRun.{OfflineRun}
use Rattle.mediator_offline.specs.Ports.{Outputs}
use Rattle.mediator_offline.specs.Offline.{first_entries, history_of, disclosed_by, due, audit_due, end_of}
use Rattle.mediator_offline.specs.Opening.{IsAcceptedJob}
use Rattle.mediator_offline.specs.Accepting.{AreAccepted}
use Rattle.mediator_offline.specs.Filtering.{Writes, StopsAtMessage}
use Rattle.mediator_offline.specs.Runs.{audit_count, RunStands, Small}

-- a run before the first message
pub record IsRunOpened {Q : Type 0} (d : OfflineRun Q) (job : OfflineJob) : Type 0 where
  pub job_is : d.job ≡ job
  pub job_accepted : IsAcceptedJob job
  pub stands : RunStands d (first_entries job) 0
  pub small : Small (first_entries job)
  pub quiet : audit_count d ≡ 0
  pub sent : d.sent ≡ 0

-- these messages were handled, and what is due for them was written
pub record IsRunning {Q : Type 0} (d : OfflineRun Q) (job : OfflineJob) (messages : List (List ℕ)) (before after : Outputs) : Type 0 where
  pub job_is : d.job ≡ job
  pub job_accepted : IsAcceptedJob job
  pub stands : RunStands d (history_of job messages) (end_of (history_of job messages))
  pub small : Small (history_of job messages)
  pub quiet : audit_count d ≡ 0
  pub sent : d.sent ≡ length (concat (due job messages))
  pub few : d.sent ≤ longest_message * end_of (history_of job messages)
  pub writes : Writes before after (due job messages) (audit_due job messages)
  pub accepted : AreAccepted job [] messages
  pub handed : AreHandedOut (due job messages) (disclosed_by job messages) (end_of (history_of job messages))

-- a run that runs somewhere, with these outputs
pub record RunsSomewhere {Q : Type 0} (d : OfflineRun Q) (after : Outputs) : Type 0 where
  pub job : OfflineJob
  pub messages : List (List ℕ)
  pub before : Outputs
  pub running : IsRunning d job messages before after

-- a message more was handled, whatever was before it
pub record HandlesOn {Q : Type 0} (old new : OfflineRun Q) (octets : List ℕ) (before after : Outputs) : Type 0 where
  pub running : (job : OfflineJob) (messages : List (List ℕ)) (first : Outputs) → IsRunning old job messages first before
      → IsRunning new job (messages ++ octets ∷ []) first after

-- the run stops at this message, whatever was before it
pub record StopsOn {Q : Type 0} (e : Fault) (old : OfflineRun Q) (octets : List ℕ) (before after : Outputs) : Type 0 where
  pub stops : (job : OfflineJob) (messages : List (List ℕ)) (first : Outputs) → IsRunning old job messages first before
      → StopsAtMessage e job messages (due job messages) octets first after
