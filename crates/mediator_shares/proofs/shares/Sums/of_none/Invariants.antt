use Rattle.std.proofs.Common.{◌≡◌, map, take}
use Rattle.mediator_tables.specs.Adding.{tallied}
use Rattle.mediator_shares.specs.Sharing.{blank}
use Rattle.mediator_shares.proofs.shares.Sums.of_none.Given as goal

abbrev pub invariant-served : goal.invariant-served
invariant-served l = map tallied l.tallies.items ≡ map blank (take l.who-index l.served)
