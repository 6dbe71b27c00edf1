use Rattle.std.proofs.Common.{◌≡◌}
use Rattle.std.specs.Vec.Iter.{into_iter_items}
use Rattle.flow_aggregate.specs.Additions.{with_additions}
use Rattle.flow_aggregate.proofs.running.add_all.Given as goal

abbrev pub invariant-loop-addition : goal.invariant-loop-addition
invariant-loop-addition l = with_additions l.groups.entries (into_iter_items l.addition-iterator) ≡ with_additions l.fn.groups.entries l.fn.additions.items
