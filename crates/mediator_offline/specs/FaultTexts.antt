-- What is said of a fault: its name.
use Rattle.std.specs.Prelude.{ℕ, List, codes}
use Rattle.mediator_offline.specs.declared.job.Fault.{Fault}
use Rattle.mediator_offline.specs.declared.job.Fault.TheVariants as offline

abbrev pub text_of_offline : Fault → List ℕ
text_of_offline offline.Read = codes "Read"
text_of_offline (offline.Write sent) = codes "Write"
text_of_offline (offline.Framing why) = codes "Framing"
text_of_offline offline.Turns = codes "Turns"
text_of_offline (offline.Mediator why) = codes "Mediator"
text_of_offline offline.Cut = codes "Cut"
text_of_offline offline.AuditWrite = codes "AuditWrite"
