use Rattle.std.proofs.Common.{map}
use Rattle.std.specs.Vec.Iter.{into_iter_items}
use Rattle.mediator_tables.specs.Adding.{reserved_for}
use Rattle.mediator_tables.proofs.AddingLaws.{CountsOn}
use Rattle.mediator_tables.proofs.groups.RunningGroups.add_reserved.Given as goal

abbrev pub invariant-reserved : goal.invariant-reserved
invariant-reserved l = CountsOn l.fn.self l.self (map reserved_for l.fn.reserved.items) (map reserved_for (into_iter_items l.one-iterator))
