use Rattle.std.proofs.Common.{length, ◌-◌}
use Rattle.octet_io.proofs.Writes.{IsWriting}
use Rattle.octet_io.proofs.sink.write_all.Given as goal

abbrev pub invariant-writes : goal.invariant-writes
invariant-writes g l = IsWriting (g.S.Sink.contents l.fn.sink) (g.S.Sink.contents l.sink) l.octets l.sent (g.S.Sink.has_failed l.fn.sink) (g.S.Sink.has_failed l.sink)

abbrev pub decreases-writes : goal.decreases-writes
decreases-writes g l = length l.octets - l.sent
