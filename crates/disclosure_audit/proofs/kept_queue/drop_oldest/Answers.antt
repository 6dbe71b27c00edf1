use Rattle.std.proofs.Common.{List, length, refl, ap, ◌∙◌, arith}
use Rattle.disclosure_audit.specs.declared.chunk.Chunk.{Chunk}
use Rattle.disclosure_audit.proofs.QueueLaws.{chunk_dropped, part_dropped}
use Rattle.disclosure_audit.proofs.kept_queue.drop_oldest.Goals as goal
use Rattle.disclosure_audit.proofs.kept_queue.drop_oldest.Goals.{in-Some-without_oldest, in_default-without_oldest}

pub chunks-preserved : goal.chunks-preserved
chunks-preserved c = elim c.match-without_oldest.branch [
  | in-Some-without_oldest w ↦ rw w.queue-is (record {
    left_is = rw w.push_front_reserved.ensures.items
        (part_dropped _ _ c.in-Some.chunk w.in-Some-without_oldest.rest c.chunks.left c.min-dropped.result _ c.in-Some.ensures.items c.chunks.invariant.left_is w.in-Some-without_oldest.ensures.left (omega (arith, c.min-dropped.ensures, c.len.ensures)) (omega (arith, w.in-Some-without_oldest.ensures.more refl)));
    fewer = omega (arith, ap (λ (q : List Chunk). length q) w.push_front_reserved.ensures.items, ap (λ (q : List Chunk). length q) c.in-Some.ensures.items, c.chunks.invariant.fewer);
    room = w.push_front_reserved.ensures.capacity ∙ c.pop_front.ensures.capacity ∙ c.chunks.invariant.room;
  })
  | in_default-without_oldest w ↦ rw w.queue-is (record {
    left_is = chunk_dropped _ _ c.in-Some.chunk c.chunks.left c.min-dropped.result _ c.in-Some.ensures.items c.chunks.invariant.left_is w.in_default-without_oldest.ensures.left (omega (arith, c.min-dropped.ensures, c.len.ensures));
    fewer = omega (arith, ap (λ (q : List Chunk). length q) c.in-Some.ensures.items, c.chunks.invariant.fewer);
    room = c.pop_front.ensures.capacity ∙ c.chunks.invariant.room;
  })
]
