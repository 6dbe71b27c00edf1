-- The messages that are pulled one after another, and what was written of them.
use Rattle.std.specs.Prelude.{◌≡◌, ℕ, ◌+◌, ◌*◌, ◌≤◌, Bool, List, ◌++◌, length, Option}
use Rattle.std.specs.List.{concat}
use Rattle.std.specs.Io.KnownBytes.{Appends}
use Rattle.ipfix_octets.specs.MessageFormat.{longest_message}
use Rattle.subscriber_stream.specs.Message.{built, place_after}
use Rattle.octet_io.specs.Written.{WritesFront}
use Rattle.event_journal.specs.declared.entry.Entry.{Entry}
use Rattle.mediator_history.specs.Disclosed.{disclosed}
use Rattle.mediator_state.specs.declared.fault.Fault.TheVariants as fault
use Rattle.mediator_offline.specs.declared.job.Fault.{Fault}
use Rattle.mediator_offline.specs.declared.job.Fault.TheVariants.{Write, Mediator}
use Rattle.mediator_offline.specs.declared.run.OfflineRun.{OfflineRun}
use Rattle.mediator_offline.specs.Runs.{RunStands, Small, KeepsAudit}
use Rattle.mediator_offline.specs.HandsOut.{HandsOutAll}
use Rattle.mediator_offline.specs.Gathering.{and_gathered}
use Rattle.mediator_offline.specs.Offline.{end_of}

-- a run that stands somewhere in what it discloses, and counts what it has written
pub record IsDeliveringRun {Q : Type 0} (d : OfflineRun Q) : Type 0 where
  pub history : List Entry
  pub place : ℕ
  pub stands : RunStands d history place
  pub small : Small history
  pub sent : d.sent ≤ longest_message * place

-- what a pull answers, and the place that it leaves
pub record PullsMessage {Q : Type 0} (old : OfflineRun Q) (answer : Option (List ℕ)) (new : OfflineRun Q) : Type 0 where
  pub message : (h : List Entry) (p : ℕ) → RunStands old h p → answer ≡ built (disclosed 1 h) p old.job.now old.job.target
  pub stands : (h : List Entry) (p : ℕ) → RunStands old h p → RunStands new h (place_after (disclosed 1 h) p old.job.target)

-- all that waited was written
pub record Delivers {Q : Type 0} (old new : OfflineRun Q) (held holds : Option (List ℕ)) : Type 0 where
  pub job : new.job ≡ old.job
  pub audit : KeepsAudit old new
  pub messages : List (List ℕ)
  pub handed : (h : List Entry) (p : ℕ) → RunStands old h p → Small h → HandsOutAll (disclosed 1 h) old.job.now old.job.target p messages (end_of h) × RunStands new h (end_of h)
  pub written : Appends held holds (concat messages)
  pub sent : new.sent ≡ old.sent + length (concat messages)
  pub few : (p : ℕ) → old.sent ≤ longest_message * p → (h : List Entry) → RunStands old h p → Small h → new.sent ≤ longest_message * end_of h

-- a front of what was gathered and of the messages that waited was written: all that was gathered, and whole messages, where
-- memory ran out, and up to an octet where the writer failed
abbrev pub StopsDelivery : {Q : Type 0} → Fault → OfflineRun Q → List ℕ → Option (List ℕ) → Option (List ℕ) → Bool → List (List ℕ) → Type 0
StopsDelivery (Write sent) old gathered held holds failed messages = (n : ℕ) × (sent + length gathered ≡ old.sent + n) × WritesFront held holds (gathered ++ concat messages) n failed
StopsDelivery (Mediator fault.OutOfMemory) old gathered held holds failed messages = Appends (and_gathered held gathered) holds (concat messages)
StopsDelivery _ old gathered held holds failed messages = ⊥

-- behind what was gathered for the writer
pub record FailsDelivery {Q : Type 0} (e : Fault) (old : OfflineRun Q) (gathered : List ℕ) (held holds : Option (List ℕ)) (failed : Bool) : Type 0 where
  pub messages : List (List ℕ)
  pub handed : (h : List Entry) (p : ℕ) → RunStands old h p → Small h → (q : ℕ) × HandsOutAll (disclosed 1 h) old.job.now old.job.target p messages q
  pub stops : StopsDelivery e old gathered held holds failed messages
