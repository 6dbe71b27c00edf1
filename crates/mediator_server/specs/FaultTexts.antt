-- What is said of a fault: its name.
use Rattle.std.specs.Prelude.{ℕ, List, codes}
use Rattle.mediator_server.specs.declared.listening.Fault.{Fault}
use Rattle.mediator_server.specs.declared.listening.Fault.TheVariants as listen

abbrev pub text_of_listen : Fault → List ℕ
text_of_listen listen.Bind = codes "Bind"
text_of_listen (listen.Connect collector) = codes "Connect"
text_of_listen listen.NoThread = codes "NoThread"
text_of_listen (listen.Mediator why) = codes "Mediator"
text_of_listen (listen.Close why) = codes "Close"
