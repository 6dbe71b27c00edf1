use Rattle.std.proofs.Common.{arith}
use Rattle.journal_files.proofs.Answering.{entry_written}
use Rattle.journal_files.proofs.entry.read_entry.Goals as goal

pub returns-clause-written : goal.returns-clause-written
returns-clause-written c = entry_written c.args.octets.now c.first_entry.result (λ i. omega (arith, c.type_inv.octets i)) c.first_entry.ensures.read
