use Rattle.std.proofs.Common.{◌≡◌}
use Rattle.mediator_connections.proofs.Sending.{IsSending}
use Rattle.mediator_connections.proofs.delivery.send_each.Given as goal

abbrev pub invariant-sends : goal.invariant-sends
invariant-sends g l =
    IsSending l.messages l.fn.sent l.sent l.handed-index (g.W.Sink.contents l.fn.writer) (g.W.Sink.contents l.writer) × (g.W.Sink.has_failed l.writer ≡ g.W.Sink.has_failed l.fn.writer)
