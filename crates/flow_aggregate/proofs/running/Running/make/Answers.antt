use Rattle.std.proofs.Common.{refl}
use Rattle.flow_aggregate.proofs.PlaceLaws.{wanting}
use Rattle.flow_aggregate.proofs.running.Running.make.Goals as goal

pub insert-requires-clause-wanting : goal.insert-requires-clause-wanting
insert-requires-clause-wanting c = wanting c.self.inside.counted c.self.inside.groups.entries c.args.self.now c.args.group.now c.args.group.now c.self.view_is refl c.requires
