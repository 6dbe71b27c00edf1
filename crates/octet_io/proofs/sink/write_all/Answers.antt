use Rattle.std.proofs.lemmas.List.{take_rest}
use Rattle.octet_io.proofs.Writes.{writing_more}
use Rattle.octet_io.proofs.sink.write_all.Goals as goal

pub writes-preserved : goal.writes-preserved
writes-preserved g c =
    writing_more _ _ _ c.args.octets.now _ c.writes.sent c.in-Ok.count _ _ _ (take_rest c.args.octets.now c.writes.sent) c.writes.invariant c.in-Ok.ensures.bound c.in-Ok.ensures.octets c.in-Ok.ensures.failed
