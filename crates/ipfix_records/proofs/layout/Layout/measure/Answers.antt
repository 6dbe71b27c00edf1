use Rattle.std.proofs.Common.{arith}
use Rattle.ipfix_template.proofs.ExtentClauses.{measured_by, reached}
use Rattle.ipfix_records.proofs.layout.Layout.measure.Goals as goal

pub returns-clause-found : goal.returns-clause-found
returns-clause-found c = measured_by c.args.self.now c.args.octets.now (λ i. omega (arith, c.type_inv.octets i)) c.find_extent.result c.find_extent.ensures

pub returns-clause-only : goal.returns-clause-only
returns-clause-only c = λ text rest values parts is. reached c.args.self.now c.args.octets.now text rest values parts is c.find_extent.result c.find_extent.ensures
