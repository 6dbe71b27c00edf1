use Rattle.std.proofs.Common.{sym, ◌∙◌, subst}
use Rattle.mediator_offline.specs.Ports.{holding}
use Rattle.mediator_offline.specs.Gathering.{and_gathered}
use Rattle.mediator_offline.specs.Running.{RunsSomewhere}
use Rattle.mediator_offline.specs.Reaching.{HandlesAll, HandlesLast, StopsAmong}
use Rattle.mediator_offline.proofs.Blaming.{gathered_only, writer_since}
use Rattle.mediator_offline.proofs.Receiving.{err_gives, ok_leads, err_leads}
use Rattle.mediator_offline.proofs.GatheringLaws.{same_outputs, some_gathered}
use Rattle.mediator_offline.proofs.Streams.{last_stops, all_written, among_written}
use Rattle.mediator_offline.proofs.run.OfflineRun.handle_all.Goals as goal

pub handle_each-handled-requires-clause-running : goal.handle_each-handled-requires-clause-running
handle_each-handled-requires-clause-running g c =
    subst (RunsSomewhere c.args.self.now)
    (sym (same_outputs (g.W.Sink.contents c.args.writer.now) (g.A.AuditSink.contents c.args.audit_writer.now) c.args.gathered.now.items (g.W.Sink.has_failed c.args.writer.now) (g.A.AuditSink.has_failed c.args.audit_writer.now) c.requires.none)) c.requires.running

pub write_gathered-requires : goal.write_gathered-requires
write_gathered-requires g c = record { counted = c.handle_each-handled.ensures.gathers.counted }

pub returns-in_err-write_gathered-clause-err : goal.returns-in_err-write_gathered-clause-err
returns-in_err-write_gathered-clause-err g c =
    let before = holding (g.W.Sink.contents c.args.writer.now) (g.A.AuditSink.contents c.args.audit_writer.now) (g.W.Sink.has_failed c.args.writer.now) (g.A.AuditSink.has_failed c.args.audit_writer.now) in
    let stops = c.in_err-write_gathered.ensures.err in
    let last : HandlesLast c.args.self.now c.handle_each-handled.new.self.sent c.args.messages.items before
    (holding (and_gathered (g.W.Sink.contents c.handle_each-handled.new.writer) c.handle_each-handled.new.gathered.items) (g.A.AuditSink.contents c.handle_each-handled.new.audit_writer) (g.W.Sink.has_failed c.handle_each-handled.new.writer) (g.A.AuditSink.has_failed c.handle_each-handled.new.audit_writer)) =
    subst (λ o. HandlesLast c.args.self.now c.handle_each-handled.new.self.sent c.args.messages.items o
    (holding (and_gathered (g.W.Sink.contents c.handle_each-handled.new.writer) c.handle_each-handled.new.gathered.items) (g.A.AuditSink.contents c.handle_each-handled.new.audit_writer) (g.W.Sink.has_failed c.handle_each-handled.new.writer) (g.A.AuditSink.has_failed c.handle_each-handled.new.audit_writer)))
    (same_outputs (g.W.Sink.contents c.args.writer.now) (g.A.AuditSink.contents c.args.audit_writer.now) c.args.gathered.now.items (g.W.Sink.has_failed c.args.writer.now) (g.A.AuditSink.has_failed c.args.audit_writer.now) c.requires.none)
    (c.handle_each-handled.ensures.last (some_gathered c.handle_each-handled.new.gathered.items stops.front (g.W.Sink.contents c.handle_each-handled.new.writer) (g.W.Sink.contents c.write_gathered.new.writer) (g.W.Sink.has_failed c.write_gathered.new.writer) stops.inside)) in
    err_gives c.from_residual.result c.from_residual.ensures
    (λ e is. subst (λ x. StopsAmong x c.args.self.now c.args.messages.items before
    (holding (g.W.Sink.contents c.write_gathered.new.writer) (g.A.AuditSink.contents c.handle_each-handled.new.audit_writer) (g.W.Sink.has_failed c.write_gathered.new.writer) (g.A.AuditSink.has_failed c.handle_each-handled.new.audit_writer))) (sym is)
    (last_stops c.in_err-write_gathered.field-0.0 c.args.self.now c.handle_each-handled.new.self.sent c.args.messages.items before (g.W.Sink.contents c.handle_each-handled.new.writer) (g.W.Sink.contents c.write_gathered.new.writer) (g.A.AuditSink.contents c.handle_each-handled.new.audit_writer) c.handle_each-handled.new.gathered.items (g.W.Sink.has_failed c.handle_each-handled.new.writer) (g.W.Sink.has_failed c.write_gathered.new.writer) (g.A.AuditSink.has_failed c.handle_each-handled.new.audit_writer) last c.handle_each-handled.ensures.gathers.counted stops))

pub returns-in_err-write_gathered-clause-fails : goal.returns-in_err-write_gathered-clause-fails
returns-in_err-write_gathered-clause-fails g c =
    let stops = c.in_err-write_gathered.ensures.err in
    err_gives c.from_residual.result c.from_residual.ensures
    (λ e is. gathered_only e c.in_err-write_gathered.field-0.0 c.handle_each-handled.new.self.sent c.handle_each-handled.new.gathered.items (g.W.Sink.contents c.handle_each-handled.new.writer) (g.W.Sink.contents c.write_gathered.new.writer) (g.W.Sink.has_failed c.args.writer.now) (g.W.Sink.has_failed c.write_gathered.new.writer) (g.A.AuditSink.has_failed c.args.audit_writer.now) (g.A.AuditSink.has_failed c.handle_each-handled.new.audit_writer) is stops
    (c.handle_each-handled.ensures.last (some_gathered c.handle_each-handled.new.gathered.items stops.front (g.W.Sink.contents c.handle_each-handled.new.writer) (g.W.Sink.contents c.write_gathered.new.writer) (g.W.Sink.has_failed c.write_gathered.new.writer) stops.inside)).sound)

pub returns-clause-ok : goal.returns-clause-ok
returns-clause-ok g c =
    ok_leads c.handle_each-handled.result c.handle_each-handled.ensures.ok
    (λ all. subst (λ o. HandlesAll c.args.self.now c.handle_each-handled.new.self c.args.messages.items o
    (holding (g.W.Sink.contents c.write_gathered.new.writer) (g.A.AuditSink.contents c.handle_each-handled.new.audit_writer) (g.W.Sink.has_failed c.write_gathered.new.writer) (g.A.AuditSink.has_failed c.handle_each-handled.new.audit_writer)))
    (same_outputs (g.W.Sink.contents c.args.writer.now) (g.A.AuditSink.contents c.args.audit_writer.now) c.args.gathered.now.items (g.W.Sink.has_failed c.args.writer.now) (g.A.AuditSink.has_failed c.args.audit_writer.now) c.requires.none)
    (all_written c.args.self.now c.handle_each-handled.new.self c.args.messages.items _ (g.W.Sink.contents c.handle_each-handled.new.writer) (g.W.Sink.contents c.write_gathered.new.writer) (g.A.AuditSink.contents c.handle_each-handled.new.audit_writer) c.handle_each-handled.new.gathered.items (g.W.Sink.has_failed c.handle_each-handled.new.writer) (g.W.Sink.has_failed c.write_gathered.new.writer) (g.A.AuditSink.has_failed c.handle_each-handled.new.audit_writer) c.in_ok-write_gathered.ensures.ok all))

pub returns-clause-stays : goal.returns-clause-stays
returns-clause-stays g c = ok_leads c.handle_each-handled.result c.handle_each-handled.ensures.stays (λ same. c.in_ok-write_gathered.ensures.stays ∙ same)

pub returns-clause-fails : goal.returns-clause-fails
returns-clause-fails g c =
    err_leads c.handle_each-handled.result c.handle_each-handled.ensures.fails
    (λ e only. writer_since e (g.W.Sink.has_failed c.args.writer.now) (g.A.AuditSink.has_failed c.args.audit_writer.now) (g.W.Sink.has_failed c.handle_each-handled.new.writer) (g.W.Sink.has_failed c.write_gathered.new.writer) (g.A.AuditSink.has_failed c.handle_each-handled.new.audit_writer) c.in_ok-write_gathered.ensures.stays only)

pub returns-clause-err : goal.returns-clause-err
returns-clause-err g c =
    err_leads c.handle_each-handled.result c.handle_each-handled.ensures.err
    (λ e stop. subst (λ o. StopsAmong e c.args.self.now c.args.messages.items o
    (holding (g.W.Sink.contents c.write_gathered.new.writer) (g.A.AuditSink.contents c.handle_each-handled.new.audit_writer) (g.W.Sink.has_failed c.write_gathered.new.writer) (g.A.AuditSink.has_failed c.handle_each-handled.new.audit_writer)))
    (same_outputs (g.W.Sink.contents c.args.writer.now) (g.A.AuditSink.contents c.args.audit_writer.now) c.args.gathered.now.items (g.W.Sink.has_failed c.args.writer.now) (g.A.AuditSink.has_failed c.args.audit_writer.now) c.requires.none)
    (among_written e c.args.self.now c.args.messages.items _ (g.W.Sink.contents c.handle_each-handled.new.writer) (g.W.Sink.contents c.write_gathered.new.writer) (g.A.AuditSink.contents c.handle_each-handled.new.audit_writer) c.handle_each-handled.new.gathered.items (g.W.Sink.has_failed c.handle_each-handled.new.writer) (g.W.Sink.has_failed c.write_gathered.new.writer) (g.A.AuditSink.has_failed c.handle_each-handled.new.audit_writer) c.in_ok-write_gathered.ensures.ok c.in_ok-write_gathered.ensures.stays stop))
