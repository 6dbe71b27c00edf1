-- What an intake's refusal is called here.
use Rattle.mediator_state.specs.declared.fault.Fault.TheVariants as fault
use Rattle.ipfix_reader.specs.declared.fault.Fault.{Fault as IntakeFault}
use Rattle.ipfix_reader.specs.declared.fault.Fault.TheVariants as intake
use Rattle.mediator_offline.specs.declared.job.Fault.{Fault}
use Rattle.mediator_offline.specs.declared.job.Fault.TheVariants.{Read, Framing, Turns, Mediator}

abbrev pub reading_fault : IntakeFault → Fault
reading_fault intake.Read = Read
reading_fault (intake.Framing why) = Framing why
reading_fault intake.Turns = Turns
reading_fault intake.OutOfMemory = Mediator fault.OutOfMemory
