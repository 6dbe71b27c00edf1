use Rattle.std.proofs.Common.{rules}
use Rattle.flow_aggregate.proofs.DueLaws.{found_by_lists}
use Rattle.flow_aggregate.proofs.running.Running.look_up_due.Goals as goal

pub returns : goal.returns
returns c =
    found_by_lists c.args.t c.self.inside.counted c.self.inside.groups.entries c.self.inside.agenda.by_time.entries c.into_iter-time-iterator.result c.times._time-iterator c.args.self.now c.times.due.items
    c.self.view_is c.self.invariant.listed c.range-time-items.ensures.ordered (search rules) c.in-None.ensures.steps.0 c.times.invariant
