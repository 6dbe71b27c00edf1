use Rattle.std.proofs.Common.{◌≡◌, ◌<◌, length}
use Rattle.std.specs.Vec.Iter.{into_iter_items}
use Rattle.mediator_offline.specs.Ports.{holding}
use Rattle.mediator_offline.specs.Gathering.{and_gathered, IsGatheredFor}
use Rattle.mediator_offline.specs.Reaching.{HandlesLast}
use Rattle.mediator_offline.proofs.Streams.{IsHandling}
use Rattle.mediator_offline.proofs.run.OfflineRun.handle_each.Given as goal

abbrev pub invariant-messages : goal.invariant-messages
invariant-messages g l =
    IsHandling l.fn.self l.self l.fn.messages.items (into_iter_items l.message-iterator)
    (holding (and_gathered (g.W.Sink.contents l.fn.writer) l.fn.gathered.items) (g.A.AuditSink.contents l.fn.audit_writer) (g.W.Sink.has_failed l.fn.writer) (g.A.AuditSink.has_failed l.fn.audit_writer))
    (holding (and_gathered (g.W.Sink.contents l.writer) l.gathered.items) (g.A.AuditSink.contents l.audit_writer) (g.W.Sink.has_failed l.writer) (g.A.AuditSink.has_failed l.audit_writer))
    × (g.W.Sink.has_failed l.writer ≡ g.W.Sink.has_failed l.fn.writer) × (g.A.AuditSink.has_failed l.audit_writer ≡ g.A.AuditSink.has_failed l.fn.audit_writer)
    × IsGatheredFor l.self l.gathered.items
    × (0 < length l.gathered.items
    → HandlesLast l.fn.self l.self.sent l.fn.messages.items
    (holding (and_gathered (g.W.Sink.contents l.fn.writer) l.fn.gathered.items) (g.A.AuditSink.contents l.fn.audit_writer) (g.W.Sink.has_failed l.fn.writer) (g.A.AuditSink.has_failed l.fn.audit_writer))
    (holding (and_gathered (g.W.Sink.contents l.writer) l.gathered.items) (g.A.AuditSink.contents l.audit_writer) (g.W.Sink.has_failed l.writer) (g.A.AuditSink.has_failed l.audit_writer)))
