use Rattle.std.proofs.Common.{arith}
use Rattle.flow_aggregate.proofs.AgendaLaws.{one_dropped}
use Rattle.flow_aggregate.proofs.listed.drop_all.Goals as goal

pub loop-group-preserved : goal.loop-group-preserved
loop-group-preserved c = record {
  keys = c.swap_remove.ensures.unique;
  sums = one_dropped c.loop-group.groups.entries c.swap_remove.new.self.entries c.args.groups.now.entries c.args.gone.now c.loop-group.group-index c.group-item.result _
      (omega (arith, c.loop-group-test.true)) c.group-item.is c.swap_remove.ensures.updates.0 c.loop-group.invariant.sums;
}
