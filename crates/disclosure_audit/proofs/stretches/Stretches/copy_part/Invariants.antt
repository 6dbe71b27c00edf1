use Rattle.std.proofs.Common.{◌≡◌, ◌++◌, ◌+◌, ◌≤◌, length, map, take, drop, vec_capacity}
use Rattle.disclosure_audit.specs.Queue.{stamp}
use Rattle.disclosure_audit.specs.Stretching.{stretched_notes}
use Rattle.disclosure_audit.proofs.stretches.Stretches.copy_part.Given as goal

abbrev pub invariant-loop-stretch : goal.invariant-loop-stretch
invariant-loop-stretch l = record {
  copied : l.out.items ++ map (stamp l.position) (take l.left (drop l.skip (stretched_notes l.self-inside.each.items (drop l.stretch-index l.self-inside.stretches.items)))) ≡ l.fn.out.items ++ map (stamp l.position) (take l.fn.most (drop l.fn.skip (stretched_notes l.self-inside.each.items l.self-inside.stretches.items)));
  left_room : length l.out.items + l.left ≤ vec_capacity l.fn.out;
  room : vec_capacity l.out ≡ vec_capacity l.fn.out;
}
