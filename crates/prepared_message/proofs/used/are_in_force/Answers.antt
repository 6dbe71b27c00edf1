use Rattle.std.proofs.Common.{ℕ, List, arith}
use Rattle.prepared_message.specs.Uses.{IsUseInForce}
use Rattle.prepared_message.proofs.UseLaws.{holds_there}
use Rattle.prepared_message.proofs.used.are_in_force.Goals as goal

pub returns-then-not-is_in_force : goal.returns-then-not-is_in_force
returns-then-not-is_in_force c = λ older stands. (
  λ is. absurd cc,
  λ all. let yes_there = (c.is_in_force.ensures older stands).1 (holds_there (IsUseInForce c.args.domain older) c.args.uses.now c.loop-used.used-index c.used-item.result (omega (arith, c.loop-used-test.true)) c.used-item.is all) in absurd cc,
)
