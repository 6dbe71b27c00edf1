-- What a message does to a run.
use Rattle.std.specs.Prelude.{◌≡◌, ℕ, Bool, true, false, List, [], ◌∷◌}
use Rattle.event_journal.specs.declared.entry.Entry.{Entry}
use Rattle.event_journal.specs.declared.entry.Entry.TheVariants.{Cut}
use Rattle.mediator_state.specs.declared.fault.Fault.{Fault as MediatorFault}
use Rattle.mediator_state.specs.Calls.{StateStandsFor}
use Rattle.mediator_offline.specs.declared.run.OfflineRun.{OfflineRun}
use Rattle.mediator_offline.specs.Offline.{cuts_by, after_message}
use Rattle.mediator_offline.specs.Runs.{sizes_tell, audit_count, audit_drained, RunStands, Small}
use Rattle.mediator_offline.specs.Offline.{end_of}
use Rattle.mediator_offline.specs.Accepting.{AcceptsMessage}
use Rattle.mediator_offline.specs.Accepting.{RefusesOctets}

-- a run that has handed out all that was disclosed, and drained the audit
pub record HasDelivered {Q : Type 0} (d : OfflineRun Q) : Type 0 where
  pub history : List Entry
  pub stands : RunStands d history (end_of history)
  pub small : Small history
  pub quiet : audit_count d ≡ 0

-- what an accepted message does: it cuts the subscription, and then the audit goes on by the cut; or the run stands for
-- the history with the message
pub record TakesMessage {Q : Type 0} (old : OfflineRun Q) (octets : List ℕ) (is_cut : Bool) (new : OfflineRun Q) : Type 0 where
  pub accepts : (h : List Entry) → RunStands old h (end_of h) → Small h → AcceptsMessage h octets
  pub cuts : (h : List Entry) → RunStands old h (end_of h) → Small h → is_cut ≡ true → (cuts_by h octets ≡ Cut 1 ∷ []) × StateStandsFor sizes_tell new.state (after_message h octets)
  pub drained : audit_drained new ≡ audit_drained old
  pub goes_on : (h : List Entry) → RunStands old h (end_of h) → Small h → is_cut ≡ false → (cuts_by h octets ≡ []) × RunStands new (after_message h octets) (end_of h) × Small (after_message h octets)

pub record RunRefuses {Q : Type 0} (e : MediatorFault) (old : OfflineRun Q) (octets : List ℕ) : Type 0 where
  pub after : (h : List Entry) → RunStands old h (end_of h) → Small h → RefusesOctets e h octets
