-- Whether a device has failed after a fault: the one that the fault names has, and each other is as it was.
use Rattle.std.specs.Prelude.{◌≡◌, Bool, true, false}
use Rattle.mediator_state.specs.declared.fault.Fault.TheVariants as fault
use Rattle.mediator_offline.specs.declared.job.Fault.{Fault}
use Rattle.mediator_offline.specs.declared.job.Fault.TheVariants.{Read, Write, AuditWrite, Mediator}

abbrev pub input_after : Fault → Bool → Bool
input_after Read was = true
input_after _ was = was

abbrev pub output_after : Fault → Bool → Bool
output_after (Write sent) was = true
output_after _ was = was

abbrev pub audit_after : Fault → Bool → Bool
audit_after AuditWrite was = true
audit_after _ was = was

-- the reader had not failed, and the writers had or not; so a device that fails is the one that is named
pub record FailsOnly (e : Fault) (writer_had audit_had reader_failed writer_failed audit_failed : Bool) : Type 0 where
  pub reader : reader_failed ≡ input_after e false
  pub writer : writer_failed ≡ output_after e writer_had
  pub audit : audit_failed ≡ audit_after e audit_had

-- lines stop where their writer failed, or memory ran out
abbrev pub StopsLines : Fault → Bool → Type 0
StopsLines AuditWrite failed = failed ≡ true
StopsLines (Mediator fault.OutOfMemory) failed = Unit {0}
StopsLines _ failed = ⊥
