use Rattle.std.proofs.Common.{◌≡◌, take}
use Rattle.prepared_message.proofs.ahead.is_same.Given as goal

abbrev pub invariant-texts : goal.invariant-texts
invariant-texts l = take l.index l.run.texts ≡ take l.index l.other.texts
