use Rattle.std.proofs.Common.{◌++◌, ap, ◌∙◌, arith, refl, length}
use Rattle.answer_writing.specs.Pieces.{rest_of_lines}
use Rattle.answer_writing.proofs.Sending.{ok_gives, err_gives, residual_gives, sending_more, sending_sent, sending_fits, sending_ends, sending_stops}
use Rattle.answer_writing.proofs.writing.write_counted.Goals as goal

pub returns-in_err-sent-clause-err : goal.returns-in_err-sent-clause-err
returns-in_err-sent-clause-err g c =
    let so = sending_more _ _ _ _ _ _ _ _ _ c.pieces.invariant.0 c.in-Some.ensures.0 in
    residual_gives c.from_residual.result c.from_residual.ensures
    (λ e is. sending_stops e c.in_err-sent.field-0.0 _ _ _ _ _ _ _ _ _ _ _ is so (sending_fits _ _ _ _ _ _ _ so c.requires.fits) c.in_err-sent.ensures.err)

pub pieces-preserved-in_ok-sent : goal.pieces-preserved-in_ok-sent
pieces-preserved-in_ok-sent g c =
    let so = sending_more _ _ _ _ _ _ _ _ _ c.pieces.invariant.0 c.in-Some.ensures.0 in (
      sending_sent _ _ _ _ _ _ _ _ _ _ so c.in_ok-sent.ensures.ok c.in_ok-sent.ensures.cleared,
      omega (arith, ap length c.in_ok-sent.ensures.cleared),
      c.in_ok-sent.ensures.stays ∙ c.pieces.invariant.2,
    )

pub returns-clause-ok : goal.returns-clause-ok
returns-clause-ok g c =
    let so = sending_more _ _ _ _ _ _ _ _ _ c.pieces.invariant.0 (ap (λ t. t ++ rest_of_lines c.pieces.rest.fields.now c.pieces.rest.entries.now) c.in_default.ensures.0) in
    ok_gives c.send-2.result c.send-2.ensures.ok (λ n all. sending_ends _ _ _ _ _ _ _ _ _ so c.in_default.ensures.1 all)

pub returns-clause-err : goal.returns-clause-err
returns-clause-err g c =
    let so = sending_more _ _ _ _ _ _ _ _ _ c.pieces.invariant.0 (ap (λ t. t ++ rest_of_lines c.pieces.rest.fields.now c.pieces.rest.entries.now) c.in_default.ensures.0) in
    err_gives c.send-2.result c.send-2.ensures.err (λ e stops. sending_stops e e _ _ _ _ _ _ _ _ _ _ _ refl so (sending_fits _ _ _ _ _ _ _ so c.requires.fits) stops)
