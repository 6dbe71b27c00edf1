use Rattle.std.proofs.lemmas.Result.{IfErr-weaker}
use Rattle.octet_io.specs.Device.{device_inner}
use Rattle.ipmd_commands.proofs.Lines.{all_written}
use Rattle.ipmd_commands.proofs.output.write_text.Goals as goal

pub returns-clause-err : goal.returns-clause-err
returns-clause-err g c =
    let held = g.O.Write.contents (device_inner c.args.output.now) in
    let written = g.O.Write.contents (device_inner c.put_text.new.output) in
    let holds = g.O.Write.contents (device_inner c.flush.new.output) in
    IfErr-weaker c.flush.result _ _ (λ e failed. (failed, all_written held written holds c.args.text.now c.in_ok-put_text.ensures.ok c.flush.ensures.kept)) c.flush.ensures.err
