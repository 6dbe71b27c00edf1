use Rattle.std.proofs.Common.{length, Some}
use Rattle.mediator_offline.proofs.Delivering.{IsPulling, parts_waiting}
use Rattle.mediator_offline.proofs.run.OfflineRun.pull_each.Given as goal

abbrev pub invariant-pulls : goal.invariant-pulls
invariant-pulls g l = IsPulling l.fn.self l.self (Some l.fn.gathered.items) (Some l.gathered.items)

abbrev pub decreases-pulls : goal.decreases-pulls
decreases-pulls g l = length (parts_waiting l.self)
