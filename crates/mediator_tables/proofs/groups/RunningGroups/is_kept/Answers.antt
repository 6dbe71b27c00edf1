use Rattle.std.proofs.Common.{rules, refl}
use Rattle.mediator_tables.proofs.GroupTableLaws.{held_nowhere}
use Rattle.mediator_tables.proofs.groups.RunningGroups.is_kept.Goals as goal

pub returns-in-None : goal.returns-in-None
returns-in-None c none = held_nowhere c.args.self.now c.args.self.now c.args.sub refl (search rules)
