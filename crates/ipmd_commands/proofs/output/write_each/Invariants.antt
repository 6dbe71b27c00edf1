use Rattle.std.proofs.Common.{take}
use Rattle.std.specs.Io.KnownBytes.{Appends}
use Rattle.octet_io.specs.Device.{device_inner}
use Rattle.ipmd_commands.specs.HexText.{hex_lines}
use Rattle.ipmd_commands.proofs.output.write_each.Given as goal

abbrev pub invariant-messages : goal.invariant-messages
invariant-messages g l = Appends (g.O.Write.contents (device_inner l.fn.output)) (g.O.Write.contents (device_inner l.output)) (hex_lines (take l.message-index l.messages))
