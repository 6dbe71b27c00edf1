use Rattle.std.proofs.Common.{◌≡◌, ◌++◌}
use Rattle.flow_aggregate.proofs.DueLaws.{closed_listed}
use Rattle.flow_aggregate.proofs.running.Running.look_up_due.Given as goal

abbrev pub invariant-times : goal.invariant-times
invariant-times l = l.due.items ++ closed_listed l.self.groups l._time-iterator ≡ closed_listed l.self.groups l.initial._time-iterator
