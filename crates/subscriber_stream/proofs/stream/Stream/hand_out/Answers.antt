use Rattle.subscriber_stream.proofs.Standings.{IsHanding-next}
use Rattle.subscriber_stream.proofs.stream.Stream.hand_out.Goals as goal

pub loop-left-preserved : goal.loop-left-preserved
loop-left-preserved c =
    rw c.hand_out_front-left.ensures.handed (IsHanding-next c.loop-left.left c.hand_out_front-left.result c.args.count _ c.args.self.now c.hand_out_front-left.ensures.few c.hand_out_front-left.ensures.within c.loop-left.invariant)
