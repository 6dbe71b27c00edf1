-- A fault's status is never that of a run that was done.
use Rattle.std.proofs.Common.{arith, ◌≡◌}
use Rattle.ipmd_commands.specs.declared.fault.Fault.{Fault as ProgramFault}
use Rattle.ipmd_commands.specs.declared.fault.Fault.TheVariants.{CommandLine, Settings, Policy, Hex, Framing, Mediator, Cut, Calls, Journal, History, Absent, Close, OutOfMemory, Device}
use Rattle.ipmd_commands.specs.Status.{status_of}

pub no_fault_is_done : (e : ProgramFault) → status_of e ≡ 0 → ⊥
no_fault_is_done (CommandLine error) h = absurd (omega arith)
no_fault_is_done (Settings why) h = absurd (omega arith)
no_fault_is_done (Policy why) h = absurd (omega arith)
no_fault_is_done Hex h = absurd (omega arith)
no_fault_is_done (Framing why) h = absurd (omega arith)
no_fault_is_done (Mediator why) h = absurd (omega arith)
no_fault_is_done Cut h = absurd (omega arith)
no_fault_is_done (Calls n) h = absurd (omega arith)
no_fault_is_done (Journal why) h = absurd (omega arith)
no_fault_is_done (History position) h = absurd (omega arith)
no_fault_is_done (Absent what) h = absurd (omega arith)
no_fault_is_done Close h = absurd (omega arith)
no_fault_is_done OutOfMemory h = absurd (omega arith)
no_fault_is_done (Device which) h = absurd (omega arith)
