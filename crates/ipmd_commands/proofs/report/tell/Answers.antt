use Rattle.std.proofs.Common.{append_assoc}
use Rattle.octet_io.specs.Device.{device_failed, device_inner}
use Rattle.ipmd_commands.specs.Runs.{line_of_report}
use Rattle.ipmd_commands.proofs.Telling.{told}
use Rattle.ipmd_commands.proofs.report.tell.Goals as goal

pub returns : goal.returns
returns g c =
    told c.writeln.result (device_failed c.args.errors.now) (device_failed c.writeln.new.self)
    (g.E.Write.contents (device_inner c.args.errors.now)) (g.E.Write.contents (device_inner c.writeln.new.self)) _ (line_of_report c.args.report)
    c.writeln.ensures.octets c.writeln.ensures.failed (simp append_assoc)
