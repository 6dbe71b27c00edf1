use Rattle.std.proofs.Common.{◌≡◌, take}
use Rattle.flow_aggregate.specs.Running.{due_of}
use Rattle.flow_aggregate.proofs.running.Running.find_due.Given as goal

abbrev pub invariant-loop-place : goal.invariant-loop-place
invariant-loop-place l = l.due.items ≡ due_of l.t (take l.place l.self.groups)
