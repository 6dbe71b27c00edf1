use Rattle.std.proofs.Common.{◌≡◌, ◌-◌, length}
use Rattle.journal_files.proofs.FileWriting.{IsWriting}
use Rattle.journal_files.proofs.writing.write_journal.Given as goal

abbrev pub invariant-entries : goal.invariant-entries
invariant-entries g l = record {
  writing : IsWriting (g.S.Sink.contents l.fn.sink) (g.S.Sink.contents l.sink) l.journal.entries l.position l.writer;
  same : g.S.Sink.has_failed l.sink ≡ g.S.Sink.has_failed l.fn.sink;
}

abbrev pub decreases-entries : goal.decreases-entries
decreases-entries g l = length l.journal.entries - l.position
