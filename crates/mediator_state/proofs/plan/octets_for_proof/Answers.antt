use Rattle.std.proofs.Common.{arith}
use Rattle.mediator_state.proofs.plan.octets_for_proof.Goals as goal

pub returns : goal.returns
returns c = λ i. omega (arith, c.type_inv.message i)
