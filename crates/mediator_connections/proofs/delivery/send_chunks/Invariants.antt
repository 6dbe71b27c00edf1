use Rattle.std.proofs.Common.{◌≡◌, ◌-◌, length}
use Rattle.mediator_connections.proofs.Chunking.{IsChunking}
use Rattle.mediator_connections.proofs.delivery.send_chunks.Given as goal

abbrev pub invariant-chunks : goal.invariant-chunks
invariant-chunks g l =
    IsChunking l.message l.fn.sent l.sent l.start (g.W.Sink.contents l.fn.writer) (g.W.Sink.contents l.writer) × (g.W.Sink.has_failed l.writer ≡ g.W.Sink.has_failed l.fn.writer)

abbrev pub decreases-chunks : goal.decreases-chunks
decreases-chunks g l = length l.message - l.start
