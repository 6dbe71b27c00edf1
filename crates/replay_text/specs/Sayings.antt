-- What a call says: the call with the octets of its texts.
use Rattle.std.specs.Prelude.{ℕ, List, string_bytes}
use Rattle.mediator_calls.specs.declared.call.Call.{Call}
use Rattle.mediator_calls.specs.declared.call.Call.TheVariants as call

pub data Saying : Type 0 where
  to_open : Saying
  to_close : ℕ → Saying
  -- the session, the message's number, its octets
  to_receive : ℕ → ℕ → List ℕ → Saying
  to_edit : List ℕ → Saying
  to_subscribe : List ℕ → Saying
  to_unsubscribe : ℕ → Saying
  -- the time, in milliseconds since 1970
  to_advance : ℕ → Saying
  -- the subscription, the Export Time, the target
  to_pull : ℕ → ℕ → ℕ → Saying
  to_tell_status : ℕ → Saying
  to_drain_audit : ℕ → Saying

abbrev pub saying : Call → Saying
saying call.Open = to_open
saying (call.Close session) = to_close session.0
saying (call.Receive session number message) = to_receive session.0 number message
saying (call.Edit text) = to_edit (string_bytes text)
saying (call.Subscribe name) = to_subscribe (string_bytes name)
saying (call.Unsubscribe sub) = to_unsubscribe sub.0
saying (call.Advance t) = to_advance t
saying (call.Pull sub now target) = to_pull sub.0 now target
saying (call.Status sub) = to_tell_status sub.0
saying (call.DrainAudit most) = to_drain_audit most
