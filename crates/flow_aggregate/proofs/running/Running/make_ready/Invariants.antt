use Rattle.std.proofs.Common.{length, take}
use Rattle.std.specs.Vec.{vec_capacity}
use Rattle.flow_aggregate.proofs.PlaceLaws.{IsMakingReady}
use Rattle.flow_aggregate.proofs.running.Running.make_ready.Given as goal

abbrev pub invariant-loop-count : goal.invariant-loop-count
invariant-loop-count l = IsMakingReady l.fn.self l.self l.additions.items (take l.count-index l.counts) l.count-index (vec_capacity l.additions) (length l.counts)
