use Rattle.std.proofs.Common.{◌≡◌, ◌≤◌, ◌+◌, length, drop}
use Rattle.std.specs.VecDeque.{deque_capacity}
use Rattle.disclosure_audit.specs.Chunks.{entries_of}
use Rattle.disclosure_audit.proofs.kept_queue.drop_oldest.Given as goal

abbrev pub invariant-chunks : goal.invariant-chunks
invariant-chunks l = record {
  left_is : drop l.left (entries_of l.queue.items) ≡ drop l.fn.count (entries_of l.fn.queue.items);
  fewer : length l.queue.items ≤ length l.fn.queue.items;
  room : deque_capacity l.queue ≡ deque_capacity l.fn.queue;
}

-- the entries that are to be dropped, and the chunks that wait
abbrev pub decreases-chunks : goal.decreases-chunks
decreases-chunks l = l.left + length l.queue.items
