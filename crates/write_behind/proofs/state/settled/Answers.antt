use Rattle.std.proofs.Common.{rules, ◌++◌, ap, sym, ◌∙◌}
use Rattle.std.specs.Io.KnownBytes.{append_known}
use Rattle.std.proofs.lemmas.List.{nil_from_length}
use Rattle.rtrb.specs.Ring.{sent, received, known_items}
use Rattle.write_behind.specs.Passing.{left_of}
use Rattle.write_behind.proofs.PassingLaws.{settles, settles_here}
use Rattle.write_behind.proofs.state.settled.Goals as goal

pub returns-then-is_none : goal.returns-then-is_none
returns-then-is_none g c = λ first passed.
    let looked = c.slots_beside-waiting.ensures.looked in
    settles_here first (g.W.Write.contents c.args.ended.writer) (received c.args.ended.ring) (known_items c.slots_beside-waiting.new.self)
    (sent c.args.producer) c.args.ended.piece.items c.args.ended.sent passed
    (ap (λ l. l ++ known_items c.slots_beside-waiting.new.self) (sym looked.1) ∙ c.slots_beside-waiting.ensures.fifo ∙ c.slots_beside-waiting.ensures.producer.1)
    (nil_from_length (known_items c.slots_beside-waiting.new.self) (search rules))
    (nil_from_length c.args.ended.piece.items (search rules))

pub returns : goal.returns
returns g c = λ first passed.
    settles first (append_known (g.W.Write.contents c.args.ended.writer) (left_of c.args.ended)) (received c.args.ended.ring)
    (known_items c.slots_beside-waiting.new.self) (sent c.args.producer) passed
    (let looked = c.slots_beside-waiting.ensures.looked in
    ap (λ l. l ++ known_items c.slots_beside-waiting.new.self) (sym looked.1) ∙ c.slots_beside-waiting.ensures.fifo ∙ c.slots_beside-waiting.ensures.producer.1)
