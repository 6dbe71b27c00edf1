use Rattle.std.proofs.Common.{arith}
use Rattle.journal_files.proofs.Answering.{head_written}
use Rattle.journal_files.proofs.entry.read_head.Goals as goal

pub returns-clause-written : goal.returns-clause-written
returns-clause-written c = head_written c.args.octets.now c.first_head.result (λ i. omega (arith, c.type_inv.octets i)) c.first_head.ensures
