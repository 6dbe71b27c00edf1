-- What an audit holds whose lines are written by a thread, and whether it has failed.
use Rattle.std.specs.Prelude.{ℕ, Bool, true, false, List, Option, None, Some}
use Rattle.octet_io.specs.Device.{device_inner, device_failed}
use Rattle.audit_behind.specs.declared.state.State.{State}
use Rattle.audit_behind.specs.declared.state.State.TheVariants.{Here, Behind, Stopped}
use Rattle.audit_behind.specs.declared.audit_behind.AuditBehind.{AuditBehind}

module _ {W : Type 0} where
  -- wherever the device is: what it held, and behind it the lines of all entries
  abbrev pub held_by : (W → Option (List ℕ)) → State W → Option (List ℕ)
  held_by contents (Here device) = contents (device_inner device)
  held_by contents (Behind held) = held
  held_by contents (Stopped held) = held

  -- while the thread is there, nothing has failed that is known
  abbrev pub state_failed : State W → Bool
  state_failed (Here device) = device_failed device
  state_failed (Behind held) = false
  state_failed (Stopped held) = true

  abbrev pub held_somewhere : (W → Option (List ℕ)) → Option (State W) → Option (List ℕ)
  held_somewhere contents None = None
  held_somewhere contents (Some state) = held_by contents state

  abbrev pub failed_somewhere : Option (State W) → Bool
  failed_somewhere None = true
  failed_somewhere (Some state) = state_failed state

  abbrev pub lines_held_in : {R : Type 0} → (W → Option (List ℕ)) → AuditBehind W R → Option (List ℕ)
  lines_held_in contents audit = held_somewhere contents audit.state

  abbrev pub audit_failed : {R : Type 0} → AuditBehind W R → Bool
  audit_failed audit = failed_somewhere audit.state
