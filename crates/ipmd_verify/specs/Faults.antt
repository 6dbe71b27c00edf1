-- What the program makes of a verifier's faults.
use Rattle.history_verify.specs.declared.fault.Fault.{Fault as VerifyFault}
use Rattle.history_verify.specs.declared.fault.Fault.TheVariants as verify
use Rattle.ipmd_commands.specs.declared.fault.Fault.{Fault as ProgramFault}
use Rattle.ipmd_commands.specs.declared.fault.Fault.TheVariants.{History, OutOfMemory}

abbrev pub verify_fault_of : VerifyFault → ProgramFault
verify_fault_of (verify.BadHistory position) = History position
verify_fault_of verify.OutOfMemory = OutOfMemory
