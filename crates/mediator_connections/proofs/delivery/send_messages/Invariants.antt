use Rattle.std.proofs.Common.{◌≡◌, false}
use Rattle.octet_io.specs.Moments.{writer_of}
use Rattle.mediator_connections.specs.Delivering.{DeliversSome}
use Rattle.mediator_connections.proofs.delivery.send_messages.Given as goal

abbrev pub invariant-pulls : goal.invariant-pulls
invariant-pulls g l =
    (goal.iterator-pulls g).can_next l.iterator' × (goal.iterator-pulls g).is_finite l.iterator'
    × DeliversSome (g.C.Clock.shows l.fn.clock) l.fn.target l.sent l.fn.handle l.handle (writer_of (g.W.Sink.contents l.fn.writer) (g.W.Sink.contents l.writer)) × (g.W.Sink.has_failed l.writer ≡ false)
