use Rattle.std.proofs.Common.{◌≡◌, vec_capacity, arith}
use Rattle.disclosure_audit.proofs.QueueLaws.{chunk_copied, room_left}
use Rattle.disclosure_audit.proofs.kept_queue.copy_oldest.Goals as goal

pub chunks-preserved : goal.chunks-preserved
chunks-preserved c =
    let chunk = c.index-chunk.result.now in
    let same : vec_capacity c.copy_oldest.new.out ≡ vec_capacity c.chunks.out = c.copy_oldest.ensures.capacity in
    record {
      copied =
          chunk_copied c.args.queue.now.items c.chunks.at c.chunks.left c.min-taken.result chunk chunk _ _ _ (omega (arith, c.if-at-len.true, c.len.ensures, c.args.queue.now.ok.0)) c.index-chunk.ensures c.chunks.invariant.copied c.in_ok-copy_oldest.ensures.copied
          (omega (arith, c.min-taken.ensures, c.len-in-chunks.ensures));
      left_room = rw same (room_left c.chunks.left c.min-taken.result _ _ _ _ c.in_ok-copy_oldest.ensures.copied (omega (arith, c.min-taken.ensures, c.len-in-chunks.ensures)) c.chunks.invariant.left_room);
      few = omega (arith, c.chunks.invariant.few);
    }
