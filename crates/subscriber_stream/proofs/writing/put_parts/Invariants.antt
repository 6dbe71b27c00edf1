use Rattle.subscriber_stream.proofs.Spans.{IsWriting}
use Rattle.subscriber_stream.proofs.writing.put_parts.Given as goal

abbrev pub invariant-loop-place : goal.invariant-loop-place
invariant-loop-place g l = IsWriting l.shapes.shapes l.queue.items l.count (g.C.Composes.composed l.fn.out) l.place l.left l.last (g.C.Composes.composed l.out)
