use Rattle.std.proofs.Common.{◌≡◌, length, vec_capacity}
use Rattle.disclosure_audit.specs.Stretching.{each_of}
use Rattle.disclosure_audit.proofs.StretchLaws.{IsCopying}
use Rattle.disclosure_audit.proofs.stretch.Stretch.copy_part.Given as goal

abbrev pub invariant-records : goal.invariant-records
invariant-records l = record {
  copying : IsCopying l.self.first l.self.count l.skip l.most l.position (vec_capacity l.fn.out) (each_of l.all l.self) l.fn.out.items l.out.items l.record l.place l.left;
  each_is : l.each ≡ each_of l.all l.self;
  len_is : l.len ≡ length (each_of l.all l.self);
  room : vec_capacity l.out ≡ vec_capacity l.fn.out;
}

abbrev pub decreases-records : goal.decreases-records
decreases-records l = l.left
