use Rattle.std.specs.Io.KnownBytes.{Appends}
use Rattle.octet_io.specs.Device.{device_inner}
use Rattle.rtrb.specs.Ring.{received, SameConsumer}
use Rattle.audit_behind.specs.Recording.{texts}
use Rattle.audit_behind.proofs.thread.write_entries.Given as goal

abbrev pub invariant-loop : goal.invariant-loop
invariant-loop g l = record {
  ring : SameConsumer l.fn.ring l.ring;
  passed : Appends (g.W.Write.contents (device_inner l.fn.device)) (g.W.Write.contents (device_inner l.device)) (texts (received l.ring));
}
