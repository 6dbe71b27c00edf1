use Rattle.std.proofs.Common.{rules}
use Rattle.flow_aggregate.proofs.ClosingLaws.{are_closed, ascends}
use Rattle.flow_aggregate.proofs.OrderLaws.{are_those}
use Rattle.flow_aggregate.proofs.running.Running.closing.Goals as goal

pub returns : goal.returns
returns c counted stands =
    are_those c.args.t counted c.sort_unstable_by.new.self.items
    (are_closed c.args.t c.args.self.now.groups c.in_ok-closed.closed.items c.sort_unstable_by.new.self.items counted c.in_ok-closed.ensures
    c.sort_unstable_by.ensures.permutation (ascends _ c.sort_unstable_by.ensures.sorted (λ a r q k. search rules)) stands)
