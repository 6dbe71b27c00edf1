use Rattle.std.proofs.Common.{◌≡◌, ◌-◌, ◌≤◌}
use Rattle.shared_mediator.proofs.HandleLaws.{KeepsMany}
use Rattle.shared_mediator.proofs.delivery.DeliveryHandle.pull_most.Given as goal

abbrev pub invariant-pulls : goal.invariant-pulls
invariant-pulls g l = KeepsMany l.fn.self.kept l.now l.target l.count l.self.kept × (l.self.sub ≡ l.fn.self.sub) × (l.count ≤ l.most)

abbrev pub decreases-pulls : goal.decreases-pulls
decreases-pulls g l = l.most - l.count
