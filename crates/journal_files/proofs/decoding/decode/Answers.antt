use Rattle.std.proofs.Common.{arith}
use Rattle.journal_files.proofs.ReadingSteps.{written_back, read_back}
use Rattle.journal_files.proofs.decoding.decode.Goals as goal

pub returns-clause-same : goal.returns-clause-same
returns-clause-same c = written_back (λ j. j.entries) c.read_file.result c.args.octets.now (λ i. omega (arith, c.type_inv.octets i)) c.read_file.ensures.exact

pub returns-clause-only : goal.returns-clause-only
returns-clause-only c = λ h is e. read_back (λ j. j.entries) c.read_file.result c.args.octets.now h c.read_file.ensures.exact is e
