use Rattle.std.proofs.Common.{◌≡◌, false, []}
use Rattle.mediator_offline.specs.Ports.{holding, with_left}
use Rattle.mediator_offline.specs.Reaching.{IsAfter}
use Rattle.mediator_offline.proofs.run.OfflineRun.read_stream.Given as goal

abbrev pub invariant-reads : goal.invariant-reads
invariant-reads g l =
    IsAfter l.self l.intake l.fn.self.job
    (with_left (g.R.Source.remaining l.fn.reader) (g.R.Source.has_failed l.fn.reader)
    (holding (g.W.Sink.contents l.fn.writer) (g.A.AuditSink.contents l.fn.audit_writer) (g.W.Sink.has_failed l.fn.writer) (g.A.AuditSink.has_failed l.fn.audit_writer)))
    (with_left (g.R.Source.remaining l.reader) (g.R.Source.has_failed l.reader)
    (holding (g.W.Sink.contents l.writer) (g.A.AuditSink.contents l.audit_writer) (g.W.Sink.has_failed l.writer) (g.A.AuditSink.has_failed l.audit_writer)))
    × (g.R.Source.has_failed l.reader ≡ false) × (g.W.Sink.has_failed l.writer ≡ g.W.Sink.has_failed l.fn.writer) × (g.A.AuditSink.has_failed l.audit_writer ≡ g.A.AuditSink.has_failed l.fn.audit_writer) × (l.gathered.items ≡ [])

abbrev pub decreases-reads : goal.decreases-reads
decreases-reads g l = l.intake.turns
