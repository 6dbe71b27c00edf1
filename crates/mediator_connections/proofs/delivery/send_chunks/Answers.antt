use Rattle.std.proofs.Common.{sym, ◌∙◌, subst}
use Rattle.mediator_connections.specs.Delivering.{StopsSending}
use Rattle.mediator_connections.proofs.Offering.{err_gives}
use Rattle.mediator_connections.proofs.Chunking.{chunking_more, chunking_stops}
use Rattle.mediator_connections.proofs.delivery.send_chunks.Goals as goal

pub returns-in_err-sent-clause-err : goal.returns-in_err-sent-clause-err
returns-in_err-sent-clause-err g c =
    let held = g.W.Sink.contents c.args.writer.now in
    let holds = g.W.Sink.contents c.chunks.writer in
    let writes = g.W.Sink.contents c.send.new.writer in
    let failed = g.W.Sink.has_failed c.send.new.writer in
    err_gives c.from_residual.result c.from_residual.ensures
    (λ e is. subst (λ x. StopsSending x c.args.message.now c.args.sent held writes failed) (sym is)
    (chunking_stops c.in_err-sent.field-0.0 c.args.message.now c.args.sent c.chunks.sent c.chunks.start c.chunk-chunk.result.now held holds writes failed c.chunks.invariant.0 c.chunk-chunk.ensures.part c.in_err-sent.ensures.err))

pub chunks-preserved : goal.chunks-preserved
chunks-preserved g c = (
  chunking_more c.args.message.now c.args.sent c.chunks.sent c.in_ok-sent.sent c.chunks.start c.chunk-chunk.result.now (g.W.Sink.contents c.args.writer.now) (g.W.Sink.contents c.chunks.writer) (g.W.Sink.contents c.send.new.writer) c.chunks.invariant.0 c.chunk-chunk.ensures.part c.in_ok-sent.ensures.ok,
  c.in_ok-sent.ensures.stays ∙ c.chunks.invariant.1,
)
