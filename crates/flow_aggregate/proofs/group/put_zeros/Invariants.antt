use Rattle.std.proofs.Common.{◌≡◌, ◌++◌, replicate}
use Rattle.flow_aggregate.proofs.group.put_zeros.Given as goal

abbrev pub invariant-loop-done : goal.invariant-loop-done
invariant-loop-done l = l.out.items ≡ l.fn.out.items ++ replicate l.done 0
