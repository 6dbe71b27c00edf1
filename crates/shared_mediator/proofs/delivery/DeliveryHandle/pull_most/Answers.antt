use Rattle.std.proofs.Common.{refl, arith}
use Rattle.shared_mediator.proofs.HandleLaws.{keeps_none, some_since, few_since}
use Rattle.shared_mediator.proofs.delivery.DeliveryHandle.pull_most.Goals as goal

pub pulls-init : goal.pulls-init
pulls-init g c = (keeps_none c.args.self.now.kept c.args.now c.args.target, refl, omega arith)

pub returns-after-pulls-clause-kept : goal.returns-after-pulls-clause-kept
returns-after-pulls-clause-kept g c = some_since c.args.self.now.kept c.args.now c.args.target c.pulls.count c.pulls.self.kept c.pulls.invariant.0

pub returns-after-pulls-clause-few : goal.returns-after-pulls-clause-few
returns-after-pulls-clause-few g c = omega (arith, few_since c.args.self.now.kept c.args.now c.args.target c.pulls.count c.pulls.self.kept c.pulls.invariant.0, c.pulls.invariant.2)
