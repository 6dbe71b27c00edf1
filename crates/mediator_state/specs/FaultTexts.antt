-- What is said of a fault: its name.
use Rattle.std.specs.Prelude.{ℕ, List, codes}
use Rattle.mediator_state.specs.declared.fault.Fault.{Fault}
use Rattle.mediator_state.specs.declared.fault.Fault.TheVariants.{BadLimits, UnknownSession, OutOfTurn, Malformed, Stale, Policy, BadName, AlreadySubscribed, UnknownSub, NoHandle, HandedFull, ClockBack, JournalFull, AuditFull, OutOfMemory}

abbrev pub text_of_fault : Fault → List ℕ
text_of_fault BadLimits = codes "BadLimits"
text_of_fault UnknownSession = codes "UnknownSession"
text_of_fault (OutOfTurn expected) = codes "OutOfTurn"
text_of_fault (Malformed why) = codes "Malformed"
text_of_fault Stale = codes "Stale"
text_of_fault (Policy why) = codes "Policy"
text_of_fault BadName = codes "BadName"
text_of_fault (AlreadySubscribed sub) = codes "AlreadySubscribed"
text_of_fault UnknownSub = codes "UnknownSub"
text_of_fault NoHandle = codes "NoHandle"
text_of_fault HandedFull = codes "HandedFull"
text_of_fault (ClockBack last) = codes "ClockBack"
text_of_fault JournalFull = codes "JournalFull"
text_of_fault (AuditFull need room) = codes "AuditFull"
text_of_fault OutOfMemory = codes "OutOfMemory"
