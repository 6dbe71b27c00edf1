-- What the calls add to what lies under the lock, and why they refuse.
use Rattle.std.specs.Prelude.{◌≡◌, ◌⊎◌, ℕ, ◌+◌, ◌<◌, Bool, true, false, ◌||◌, Option, Some, None}
use Rattle.mediator_history.specs.Subscriptions.{is_live, is_served}
use Rattle.mediator_state.specs.declared.fault.Fault.{Fault as MediatorFault}
use Rattle.mediator_state.specs.declared.fault.Fault.TheVariants.{UnknownSub, NoHandle, JournalFull}
use Rattle.mediator_calls.specs.Mediation.{waiting_at}
use Rattle.mediator_calls.specs.Calls.{RefusesOpen}
use Rattle.shared_mediator.specs.Counted.{Counts}
use Rattle.shared_mediator.specs.Locked.{Locked, locked_as}
use Rattle.shared_mediator.specs.declared.delivery.Waited.{Waited}
use Rattle.shared_mediator.specs.declared.delivery.Waited.TheVariants as waited

-- so many entries and records more are counted, and so many records are those of subscriptions that have ended; no handle is made
pub record Adds (entries handed gone : ℕ) (old new : Locked) : Type 0 where
  pub counts : Counts old.counted entries handed gone new.counted
  pub handles : new.handles ≡ old.handles
  pub exporters_are : new.exporters ≡ old.exporters
  pub deliveries_are : new.deliveries ≡ old.deliveries
  pub admins_are : new.admins ≡ old.admins
  pub stopped : new.stopped ≡ old.stopped
  pub full : new.full ≡ old.full

-- so many handles more of each kind are made, and nothing more is counted
pub record Makes (exporters deliveries admins : ℕ) (old new : Locked) : Type 0 where
  pub counts : Counts old.counted 0 0 0 new.counted
  pub handles : new.handles ≡ old.handles
  pub exporters_are : new.exporters ≡ old.exporters + exporters
  pub deliveries_are : new.deliveries ≡ old.deliveries + deliveries
  pub admins_are : new.admins ≡ old.admins + admins
  pub stopped : new.stopped ≡ old.stopped
  pub full : new.full ≡ old.full

-- whether a call was refused since the journal is full
abbrev pub is_full : MediatorFault → Bool
is_full JournalFull = true
is_full _ = false

-- nothing has changed but that such a refusal is noted, if it is one
abbrev pub with_refusal : Bool → Locked → Locked
with_refusal full d = locked_as d.counted d.handles d.exporters d.deliveries d.admins d.stopped (d.full || full)

-- as many of the kind were made as there may be; or the mediator opens no session
abbrev pub RefusesExporter : MediatorFault → Locked → Type 0
RefusesExporter why d = ((why ≡ NoHandle) × (d.exporters ≡ d.handles)) ⊎ ((d.exporters < d.handles) × RefusesOpen why d.counted.core)

-- no such subscription is live; or as many of the kind were made as there may be
abbrev pub RefusesDelivery : MediatorFault → Locked → ℕ → Type 0
RefusesDelivery UnknownSub d sub = is_live sub d.counted.core.history ≡ false
RefusesDelivery NoHandle d sub = (is_live sub d.counted.core.history ≡ true) × (d.deliveries ≡ d.handles)
RefusesDelivery _ d sub = ⊥

abbrev pub RefusesAdmin : MediatorFault → Locked → Type 0
RefusesAdmin NoHandle d = d.admins ≡ d.handles
RefusesAdmin _ d = ⊥

-- the first that is so: something waits for the subscription, it has ended, it was cut, or all is to stop; or none is
abbrev pub IsWaited : Locked → ℕ → Option Waited → Type 0
IsWaited d sub (Some waited.Queued) = (is_live sub d.counted.core.history ≡ true) × (0 < waiting_at d.counted.core sub)
IsWaited d sub (Some waited.Gone) = is_live sub d.counted.core.history ≡ false
IsWaited d sub (Some waited.Cut) = (is_live sub d.counted.core.history ≡ true) × (waiting_at d.counted.core sub ≡ 0) × (is_served sub d.counted.core.history ≡ false)
IsWaited d sub (Some waited.Stopped) =
    (is_live sub d.counted.core.history ≡ true) × (waiting_at d.counted.core sub ≡ 0) × (is_served sub d.counted.core.history ≡ true) × (d.stopped ≡ true)
IsWaited d sub None =
    (is_live sub d.counted.core.history ≡ true) × (waiting_at d.counted.core sub ≡ 0) × (is_served sub d.counted.core.history ≡ true) × (d.stopped ≡ false)
