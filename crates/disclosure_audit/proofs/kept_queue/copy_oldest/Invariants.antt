use Rattle.std.proofs.Common.{◌≡◌, ◌≤◌, ◌+◌, ◌-◌, ◌++◌, length, take, drop, vec_capacity}
use Rattle.disclosure_audit.specs.Chunks.{entries_of}
use Rattle.disclosure_audit.proofs.kept_queue.copy_oldest.Given as goal

abbrev pub invariant-chunks : goal.invariant-chunks
invariant-chunks l = record {
  copied : l.out.items ++ take l.left (entries_of (drop l.at l.queue.items)) ≡ l.fn.out.items ++ take l.count (entries_of l.queue.items);
  left_room : length l.out.items + l.left ≤ vec_capacity l.out;
  few : l.left ≤ l.count;
}

abbrev pub decreases-chunks : goal.decreases-chunks
decreases-chunks l = length l.queue.items - l.at
