use Rattle.std.proofs.Common.{arith, refl}
use Rattle.subscriber_stream.proofs.Pieces.{accepted_under}
use Rattle.subscriber_stream.proofs.Spans.{announcement_of, span_fits}
use Rattle.subscriber_stream.proofs.writing.put_span.Goals as goal

pub put_announcement-requires-clause-accepted : goal.put_announcement-requires-clause-accepted
put_announcement-requires-clause-accepted g c =
    let is = announcement_of c.args.shapes.now.shapes _ _ _ c.requires.kept c.in-Announce.is in
    rw c.shape_of.ensures (accepted_under _ _ _ is.low is.accepted)

pub run_octets-others-requires-clause-fits : goal.run_octets-others-requires-clause-fits
run_octets-others-requires-clause-fits g c =
    omega (arith, span_fits c.args.last c.in-Bring.id c.args.left c.min-count.result _ _ c.args.next.now c.in-Bring.texts _ c.in-Bring.is c.requires.some c.requires.filled.0 (omega (arith, c.min-count.ensures, c.len.ensures)) refl refl c.requires.fits)

pub overflow_add-octets : goal.overflow_add-octets
overflow_add-octets g c =
    omega (arith, span_fits c.args.last c.in-Bring.id c.args.left c.min-count.result _ _ c.args.next.now c.in-Bring.texts _ c.in-Bring.is c.requires.some c.requires.filled.0 (omega (arith, c.min-count.ensures, c.len.ensures)) c.octets.ensures.exact c.run_octets-others.ensures c.requires.fits)

pub put_head-requires : goal.put_head-requires
put_head-requires g c =
    omega (arith, span_fits c.args.last c.in-Bring.id c.args.left c.min-count.result _ _ c.args.next.now c.in-Bring.texts _ c.in-Bring.is c.requires.some c.requires.filled.0 (omega (arith, c.min-count.ensures, c.len.ensures)) c.octets.ensures.exact c.run_octets-others.ensures c.requires.fits)
