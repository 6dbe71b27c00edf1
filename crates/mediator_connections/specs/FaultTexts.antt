-- What is said of a fault: its name.
use Rattle.std.specs.Prelude.{ℕ, List, codes}
use Rattle.mediator_connections.specs.declared.fault.Fault.{Fault}
use Rattle.mediator_connections.specs.declared.fault.Fault.TheVariants as serve

abbrev pub text_of_serve : Fault → List ℕ
text_of_serve serve.Read = codes "Read"
text_of_serve (serve.Write sent) = codes "Write"
text_of_serve (serve.Framing why) = codes "Framing"
text_of_serve serve.Turns = codes "Turns"
text_of_serve serve.TooWide = codes "TooWide"
text_of_serve serve.TooManyCounts = codes "TooManyCounts"
text_of_serve (serve.Mediator why) = codes "Mediator"
