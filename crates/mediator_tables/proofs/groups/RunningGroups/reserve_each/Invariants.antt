use Rattle.std.proofs.Common.{length, map, take}
use Rattle.std.specs.Vec.{vec_capacity}
use Rattle.mediator_tables.specs.Adding.{tallied, reserved_for}
use Rattle.mediator_tables.proofs.AddingLaws.{IsReserving}
use Rattle.mediator_tables.proofs.groups.RunningGroups.reserve_each.Given as goal

abbrev pub invariant-tallies : goal.invariant-tallies
invariant-tallies l =
    IsReserving l.fn.self l.self (map reserved_for l.reserved.items) (map tallied (take l.tally-index l.tallies)) l.tally-index (vec_capacity l.reserved) (length l.tallies)
