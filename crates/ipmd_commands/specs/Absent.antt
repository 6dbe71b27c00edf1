-- What is said of what a journal doesn't have.
use Rattle.std.specs.Prelude.{ℕ, List, ◌++◌, codes}
use Rattle.std.specs.Fmt.{decimal}
use Rattle.ipmd_commands.specs.declared.fault.Absent.{Absent}
use Rattle.ipmd_commands.specs.declared.fault.Absent.TheVariants.{Subscription, Message, Record}

abbrev pub text_of_absent : Absent → List ℕ
text_of_absent (Subscription sub) = codes "NoSubscription " ++ decimal sub
text_of_absent (Message position) = codes "NoMessage " ++ decimal position
text_of_absent (Record position index) = codes "NoRecord " ++ decimal position ++ codes " " ++ decimal index
