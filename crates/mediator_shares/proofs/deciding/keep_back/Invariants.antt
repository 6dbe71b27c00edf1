use Rattle.std.proofs.Common.{take}
use Rattle.mediator_shares.specs.Deciding.{AreKeptAlike}
use Rattle.mediator_shares.proofs.deciding.keep_back.Given as goal

abbrev pub invariant-served : goal.invariant-served
invariant-served l = AreKeptAlike l.domain l.in_force l.run l.from l.to (take l.place l.served) l.kept.items
