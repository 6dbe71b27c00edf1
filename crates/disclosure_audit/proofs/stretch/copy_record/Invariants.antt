use Rattle.std.proofs.Common.{◌≡◌, ◌++◌, map, take, vec_capacity}
use Rattle.disclosure_audit.specs.Noting.{note_at}
use Rattle.disclosure_audit.specs.Queue.{stamp}
use Rattle.disclosure_audit.proofs.stretch.copy_record.Given as goal

abbrev pub invariant-loop-kept : goal.invariant-loop-kept
invariant-loop-kept l = record {
  copied : l.out.items ≡ l.fn.out.items ++ map (stamp l.position) (map (note_at l.index) (take l.kept-index l.each));
  room : vec_capacity l.out ≡ vec_capacity l.fn.out;
}
