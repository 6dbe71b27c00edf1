use Rattle.std.proofs.Common.{◌≡◌, ◌++◌, take}
use Rattle.flow_aggregate.specs.Running.{closed_among}
use Rattle.flow_aggregate.proofs.running.Running.put_all.Given as goal

abbrev pub invariant-loop-group : goal.invariant-loop-group
invariant-loop-group l = l.due.items ≡ l.fn.due.items ++ closed_among l.self.groups (take l.group-index l.groups)
