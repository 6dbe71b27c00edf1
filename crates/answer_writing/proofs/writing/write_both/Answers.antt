use Rattle.std.proofs.Common.{◌+◌, ◌<◌, ◌^◌, ◌++◌, length, refl, append-nil, arith, length-append}
use Rattle.answer_writing.proofs.Sending.{err_gives, sending_starts, sending_more, sending_sent, sending_fits, sending_stops}
use Rattle.answer_writing.proofs.writing.write_both.Goals as goal

pub returns-clause-err : goal.returns-clause-err
returns-clause-err g c =
    let first = sending_starts (c.args.first.now ++ c.args.second.now) c.args.first.now c.args.second.now _ _ refl in
    let between = sending_sent _ _ _ _ _ _ _ _ _ _ first c.in_ok-between.ensures.ok refl in
    let second = sending_more _ _ _ c.args.second.now _ _ _ _ _ between (append-nil c.args.second.now) in
    let fits : c.args.sent + length (c.args.first.now ++ c.args.second.now) < 2 ^ 64 = omega (arith, c.if-length-sent.false, c.ranges.sent.fits, length-append c.args.first.now c.args.second.now) in
    err_gives c.write_octets-2.result c.write_octets-2.ensures.err (λ e stops. sending_stops e e _ _ _ _ _ _ _ _ _ _ _ refl second (sending_fits _ _ _ _ _ _ _ second fits) stops)
