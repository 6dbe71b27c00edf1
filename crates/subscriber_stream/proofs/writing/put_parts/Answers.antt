use Rattle.std.proofs.Common.{arith}
use Rattle.subscriber_stream.proofs.Queues.{filled_at}
use Rattle.subscriber_stream.proofs.Spans.{can_write, IsWriting-next}
use Rattle.subscriber_stream.proofs.writing.put_parts.Goals as goal

pub put_span-requires-clause-filled : goal.put_span-requires-clause-filled
put_span-requires-clause-filled g c = (filled_at _ _ _ c.requires.filled (omega arith) c.index-next.ensures, c.requires.filled)

pub put_span-requires-clause-kept : goal.put_span-requires-clause-kept
put_span-requires-clause-kept g c =
    (can_write _ _ _ _ _ _ _ _ _ c.loop-place.invariant (omega arith) c.index-next.ensures).kept

pub put_span-requires-clause-fits : goal.put_span-requires-clause-fits
put_span-requires-clause-fits g c =
    (can_write _ _ _ _ _ _ _ _ _ c.loop-place.invariant (omega arith) c.index-next.ensures).fits

pub loop-place-preserved : goal.loop-place-preserved
loop-place-preserved g c =
    rw (c.saturating_sub-left.ensures, c.len.ensures, c.data_set-last.ensures) (IsWriting-next _ _ _ _ _ _ _ _ _ _ c.loop-place.invariant (omega arith) c.index-next.ensures (omega arith) (filled_at _ _ _ c.requires.filled (omega arith) c.index-next.ensures) c.in_ok-put_span.ensures)
