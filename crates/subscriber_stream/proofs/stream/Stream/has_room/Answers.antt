use Rattle.std.proofs.Common.{sym, ◌∙◌, arith}
use Rattle.std.proofs.lemmas.Bool.{leb-true}
use Rattle.subscriber_stream.specs.Waiting.{items_in}
use Rattle.subscriber_stream.proofs.Standings.{queued_entries, room_by_parts, no_room}
use Rattle.subscriber_stream.proofs.stream.Stream.has_room.Goals as goal

pub returns-then-len-self : goal.returns-then-len-self
returns-then-len-self c =
    rw (← c.self.view_is) (room_by_parts _ c.args.records.now c.self.inside.waiting (c.self.invariant.counted ∙ sym (queued_entries c.self.inside.shapes.shapes (items_in c.self.inside.queue.items))) c.self.invariant.few_waiting (rw c.len.ensures.value at c.if-len-self.true) c.has_shape_room.result (rw c.runs.ensures.value at c.has_shape_room.ensures))

pub returns-else-len-self : goal.returns-else-len-self
returns-else-len-self c =
    rw (← c.self.view_is) (λ is. absurd (omega (arith, leb-true _ _ is)), λ room. absurd (no_room _ c.args.records.now c.self.inside.waiting (c.self.invariant.counted ∙ sym (queued_entries c.self.inside.shapes.shapes (items_in c.self.inside.queue.items))) (rw c.len.ensures.value at c.if-len-self.false) room))
