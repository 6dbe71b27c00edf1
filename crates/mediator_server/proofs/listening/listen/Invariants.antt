use Rattle.std.specs.Prelude.{◌+◌, ◌*◌}
use Rattle.mediator_server.proofs.listening.listen.Given as goal

abbrev pub ghosts-listen_with-E-EntryLedger : goal.ghosts-listen_with-E-EntryLedger
ghosts-listen_with-E-EntryLedger g a = record { all = 2 * a.handles + 1; before = a.mediator.history }

abbrev pub ghosts-listen_with-E-Ledger : goal.ghosts-listen_with-E-Ledger
ghosts-listen_with-E-Ledger g a = record { name = a.entries.name; parts = a.entries.parts }

abbrev pub ghosts-listen_with-H-RecordLedger : goal.ghosts-listen_with-H-RecordLedger
ghosts-listen_with-H-RecordLedger g a = record { all = a.handles + 1 }

abbrev pub ghosts-listen_with-H-Ledger : goal.ghosts-listen_with-H-Ledger
ghosts-listen_with-H-Ledger g a = record { name = a.handed.name; parts = a.handed.parts }
