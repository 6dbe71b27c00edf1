-- What refusals of the parts are called here, and which device has failed after a fault.
use Rattle.std.specs.Prelude.{Bool, true, false}
use Rattle.mediator_state.specs.declared.fault.Fault.TheVariants as fault
use Rattle.ipfix_reader.specs.declared.fault.Fault.{Fault as IntakeFault}
use Rattle.ipfix_reader.specs.declared.fault.Fault.TheVariants as intake
use Rattle.mediator_connections.specs.declared.fault.Fault.{Fault}
use Rattle.mediator_connections.specs.declared.fault.Fault.TheVariants.{Read, Write, Framing, Turns, Mediator}

abbrev pub out_of_memory : Fault
out_of_memory = Mediator fault.OutOfMemory

-- what an intake's refusal is called
abbrev pub intake_refusal : IntakeFault → Fault
intake_refusal intake.Read = Read
intake_refusal (intake.Framing why) = Framing why
intake_refusal intake.Turns = Turns
intake_refusal intake.OutOfMemory = out_of_memory

-- whether a reader has failed that had not failed before: where that is the fault
abbrev pub fails_reader : Fault → Bool
fails_reader Read = true
fails_reader _ = false

-- whether such a writer has
abbrev pub fails_writer : Fault → Bool
fails_writer (Write sent) = true
fails_writer _ = false
