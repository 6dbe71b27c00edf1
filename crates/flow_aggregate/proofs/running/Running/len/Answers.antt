use Rattle.std.proofs.Common.{arith}
use Rattle.flow_aggregate.proofs.KeptLaws.{few_kept}
use Rattle.flow_aggregate.proofs.running.Running.len.Goals as goal

pub returns-clause-few : goal.returns-clause-few
returns-clause-few c counted stands =
    omega (
      arith,
      c.len.ensures.len,
      few_kept c.self.inside.counted c.self.inside.groups.entries c.self.inside.agenda.by_time.entries c.args.self.now counted c.self.invariant c.self.view_is stands,
    )
