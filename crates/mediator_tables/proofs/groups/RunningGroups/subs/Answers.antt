use Rattle.std.proofs.Common.{refl}
use Rattle.mediator_tables.proofs.GroupTableLaws.{numbers_more}
use Rattle.mediator_tables.proofs.groups.RunningGroups.subs.Goals as goal

pub numbers-preserved : goal.numbers-preserved
numbers-preserved c = numbers_more c.numbers.subs.items c.push.new.self.items c.numbers.number-iterator c.next.new.self _ _ _ c.in_ok-push.ensures.items c.in-Some.ensures.steps refl c.numbers.invariant
