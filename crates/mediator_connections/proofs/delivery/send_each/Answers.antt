use Rattle.std.proofs.Common.{sym, subst, arith}
use Rattle.mediator_connections.specs.Delivering.{StopsSending, handed_octets}
use Rattle.mediator_connections.proofs.Offering.{err_gives}
use Rattle.mediator_connections.proofs.Sending.{sending_fits, sending_stops}
use Rattle.mediator_connections.proofs.delivery.send_each.Goals as goal

pub send_chunks-requires : goal.send_chunks-requires
send_chunks-requires g c = record {
  fits = sending_fits c.args.messages.now c.args.sent c.sends.sent c.sends.handed-index c.handed-item.result _ _ _ c.sends.invariant.0 (omega (arith, c.sends-test.true)) c.handed-item.is c.requires.fits;
}

pub returns-in_err-sent-clause-err : goal.returns-in_err-sent-clause-err
returns-in_err-sent-clause-err g c =
    let held = g.W.Sink.contents c.args.writer.now in
    let holds = g.W.Sink.contents c.sends.writer in
    let writes = g.W.Sink.contents c.send_chunks.new.writer in
    let failed = g.W.Sink.has_failed c.send_chunks.new.writer in
    err_gives c.from_residual.result c.from_residual.ensures
    (λ e is. subst (λ x. StopsSending x (handed_octets c.args.messages.now) c.args.sent held writes failed) (sym is)
    (sending_stops c.in_err-sent.field-0.0 c.args.messages.now c.args.sent c.sends.sent c.sends.handed-index c.handed-item.result _ held holds writes failed c.sends.invariant.0 (omega (arith, c.sends-test.true)) c.handed-item.is c.in_err-sent.ensures.err))
