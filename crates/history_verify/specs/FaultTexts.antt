-- What is said of a fault: its name.
use Rattle.std.specs.Prelude.{ℕ, List, codes}
use Rattle.history_verify.specs.declared.fault.Fault.{Fault}
use Rattle.history_verify.specs.declared.fault.Fault.TheVariants.{BadHistory, OutOfMemory}

abbrev pub history_fault_text : Fault → List ℕ
history_fault_text (BadHistory position) = codes "BadHistory"
history_fault_text OutOfMemory = codes "OutOfMemory"
