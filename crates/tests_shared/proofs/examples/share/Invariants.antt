use Rattle.std.specs.Prelude.{◌+◌, ◌*◌}
use Rattle.tests_shared.proofs.examples.share.Given as goal

abbrev pub ghosts-share_by-E-EntryLedger : goal.ghosts-share_by-E-EntryLedger
ghosts-share_by-E-EntryLedger g a = record { all = 2 * a.handles + 1; before = a.mediator.history }

abbrev pub ghosts-share_by-E-Ledger : goal.ghosts-share_by-E-Ledger
ghosts-share_by-E-Ledger g a = record { name = a.entries.name; parts = a.entries.parts }

abbrev pub ghosts-share_by-H-RecordLedger : goal.ghosts-share_by-H-RecordLedger
ghosts-share_by-H-RecordLedger g a = record { all = a.handles + 1 }

abbrev pub ghosts-share_by-H-Ledger : goal.ghosts-share_by-H-Ledger
ghosts-share_by-H-Ledger g a = record { name = a.handed.name; parts = a.handed.parts }
