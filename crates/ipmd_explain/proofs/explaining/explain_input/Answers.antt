use Rattle.std.proofs.lemmas.Result.{IfErr-weaker}
use Rattle.octet_io.specs.Device.{device_inner}
use Rattle.ipmd_explain.proofs.ReadingLaws.{refuses_flush}
use Rattle.ipmd_explain.proofs.explaining.explain_input.Goals as goal

pub returns-in-Ok-clause-err : goal.returns-in-Ok-clause-err
returns-in-Ok-clause-err g c =
    let given = g.I.Read.remaining c.args.input in
    let held = g.O.Write.contents (device_inner c.args.output.now) in
    let after = g.O.Write.contents (device_inner c.flush.new.output) in
    IfErr-weaker c.flush.result _ _
    (λ e failed. refuses_flush c.args.question c.args.path.now e given held _ after failed c.flush.ensures.kept (rw c.new-source.ensures.inner at c.in-Ok.ensures.ok))
    c.flush.ensures.err
