-- What is said of a fault: its name.
use Rattle.std.specs.Prelude.{ℕ, List, codes}
use Rattle.shared_mediator.specs.declared.fault.Fault.{Fault}
use Rattle.shared_mediator.specs.declared.fault.Fault.TheVariants as close

abbrev pub text_of_close : Fault → List ℕ
text_of_close close.MissingHandle = codes "MissingHandle"
text_of_close (close.Mismatch handle position) = codes "Mismatch"
text_of_close close.OutOfMemory = codes "OutOfMemory"
