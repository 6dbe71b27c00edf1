use Rattle.std.proofs.Common.{sym, subst}
use Rattle.flow_aggregate.specs.Running.{SumsStand}
use Rattle.mediator_tables.specs.GroupTable.{groups_at}
use Rattle.mediator_history.specs.Counting.{running}
use Rattle.history_verify.proofs.sums.Sums.add.Goals as goal

pub returns : goal.returns
returns c = λ tallies more h g ready apart adds so same. record {
  groups = λ q. subst (SumsStand (groups_at c.add_reserved.new.self q)) (sym (same q)) (c.add_reserved.ensures.adds tallies ready apart q (running q h) (more q) (so.groups q) (adds q));
}
