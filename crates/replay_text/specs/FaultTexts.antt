-- What is said of a text that is no list of calls.
use Rattle.std.specs.Prelude.{ℕ, List, ◌++◌, codes}
use Rattle.std.specs.Fmt.{decimal}
use Rattle.replay_text.specs.declared.fault.Fault.{Fault}
use Rattle.replay_text.specs.declared.fault.Fault.TheVariants.{Line, OutOfMemory}

abbrev pub text_of_calls_fault : Fault → List ℕ
text_of_calls_fault (Line n) = codes "calls line " ++ decimal n
text_of_calls_fault OutOfMemory = codes "OutOfMemory"
