use Rattle.std.proofs.Common.{rules, ap, sym, ◌∙◌, refl}
use Rattle.std.specs.Io.KnownBytes.{Appends, append_known}
use Rattle.std.proofs.KnownBytes.{Keeps-trans}
use Rattle.rtrb.specs.Ring.{sent, received}
use Rattle.write_behind.specs.Passing.{left_of}
use Rattle.write_behind.specs.Holding.{held_by}
use Rattle.write_behind.proofs.PassingLaws.{begins_empty}
use Rattle.write_behind.proofs.state.start.Goals as goal

pub returns-in-Ok-spawn_with : goal.returns-in-Ok-spawn_with
returns-in-Ok-spawn_with g c =
    begins_empty (g.W.Write.contents c.args.writer) (g.W.Write.contents c.in-Ok-spawn_with.thread.promise.writer.value) (sent c.in-Ok-new.producer)
    (ap g.W.Write.contents (ap (λ o. o.writer.value) c.in-Ok-spawn_with.ensures.ok ∙ c.of.ensures)) c.in-Ok-new.ensures.producer.0

pub returns-in-Err : goal.returns-in-Err
returns-in-Err g c =
    let ended = c.spawn_with-in-Err.result in
    let passed : Appends (g.W.Write.contents c.args.writer) (append_known (g.W.Write.contents ended.writer) (left_of ended)) (received ended.ring) = search rules in
    Keeps-trans (g.W.Write.contents c.args.writer) (append_known (g.W.Write.contents c.args.writer) (sent c.in-Ok-new.producer)) (held_by g.W.Write.contents c.settled.result)
    (begins_empty (g.W.Write.contents c.args.writer) (g.W.Write.contents c.args.writer) (sent c.in-Ok-new.producer) refl c.in-Ok-new.ensures.producer.0)
    (c.settled.ensures (g.W.Write.contents c.args.writer) passed)
