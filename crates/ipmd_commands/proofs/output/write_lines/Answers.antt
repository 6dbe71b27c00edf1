use Rattle.std.proofs.Common.{rules, inr, subst}
use Rattle.std.proofs.lemmas.Result.{IfErr-weaker}
use Rattle.std.specs.Io.KnownBytes.{Appends}
use Rattle.octet_io.specs.Device.{device_inner}
use Rattle.ipmd_commands.specs.HexText.{hex_lines}
use Rattle.ipmd_commands.proofs.Lines.{all_written}
use Rattle.ipmd_commands.proofs.output.write_lines.Goals as goal

pub returns-clause-err : goal.returns-clause-err
returns-clause-err g c =
    let held = g.O.Write.contents (device_inner c.args.output.now) in
    let written = g.O.Write.contents (device_inner c.write_each.new.output) in
    let holds = g.O.Write.contents (device_inner c.flush.new.output) in
    IfErr-weaker c.flush.result _ _
    (λ e failed. (
      inr failed,
      inr (record {
        messages = c.in_ok-messages.messages.items;
        cut = c.in_ok-messages.ensures;
        written = all_written held written holds (hex_lines c.in_ok-messages.messages.items) (subst (λ m. Appends held written (hex_lines m)) (search rules) c.in_ok-write_each.ensures.ok) c.flush.ensures.kept;
      }),
    ))
    c.flush.ensures.err
