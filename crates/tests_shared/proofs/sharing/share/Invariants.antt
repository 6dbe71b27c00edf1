use Rattle.std.specs.Prelude.{◌+◌, ◌*◌}
use Rattle.tests_shared.proofs.sharing.share.Given as goal

abbrev pub ghosts-run-E-EntryLedger : goal.ghosts-run-E-EntryLedger
ghosts-run-E-EntryLedger g a = record { all = 2 * a.handles + 1; before = a.mediator.history }

abbrev pub ghosts-run-E-Ledger : goal.ghosts-run-E-Ledger
ghosts-run-E-Ledger g a = record { name = a.entries.name; parts = a.entries.parts }

abbrev pub ghosts-run-H-RecordLedger : goal.ghosts-run-H-RecordLedger
ghosts-run-H-RecordLedger g a = record { all = a.handles + 1 }

abbrev pub ghosts-run-H-Ledger : goal.ghosts-run-H-Ledger
ghosts-run-H-Ledger g a = record { name = a.handed.name; parts = a.handed.parts }
