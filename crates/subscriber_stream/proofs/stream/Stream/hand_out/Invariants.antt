use Rattle.subscriber_stream.proofs.Standings.{IsHanding}
use Rattle.subscriber_stream.proofs.stream.Stream.hand_out.Given as goal

abbrev pub invariant-loop-left : goal.invariant-loop-left
invariant-loop-left l = IsHanding l.left l.self l.count l.fn.self

abbrev pub decreases-loop-left : goal.decreases-loop-left
decreases-loop-left l = l.left
