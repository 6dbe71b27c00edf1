use Rattle.std.proofs.Common.{arith}
use Rattle.flow_anonymize.proofs.steps.octets_for_proof.Goals as goal

pub returns : goal.returns
returns c = λ i. omega (arith, c.type_inv.octets i)
