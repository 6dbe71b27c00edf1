use Rattle.std.specs.Io.KnownBytes.{Appends}
use Rattle.rtrb.specs.Ring.{received, SameConsumer}
use Rattle.octet_io.specs.Device.{device_inner}
use Rattle.write_behind.proofs.thread.write_pieces.Given as goal

abbrev pub invariant-loop : goal.invariant-loop
invariant-loop g l = record {
  ring : SameConsumer l.fn.ring l.ring;
  passed : Appends (g.W.Write.contents l.fn.writer) (g.W.Write.contents (device_inner l.device)) (received l.ring);
}
