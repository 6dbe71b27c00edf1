use Rattle.std.proofs.Common.{◌≡◌, ◌-◌, length}
use Rattle.mediator_shares.proofs.StretchLaws.{GoesOn}
use Rattle.mediator_shares.proofs.judges.Judges.stretch.Given as goal

abbrev pub decreases-records : goal.decreases-records
decreases-records l = length l.run.texts - l.to

abbrev pub invariant-records : goal.invariant-records
invariant-records l = GoesOn l.fn.self.cuts l.run l.from l.to l.classes l.next × (l.self ≡ l.fn.self)
