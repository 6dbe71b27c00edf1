use Rattle.std.proofs.Common.{false, refl, sym, ap, ◌∙◌, subst, arith}
use Rattle.std.specs.Prelude.{MatchOption}
use Rattle.ipfix_reader.specs.Intake.{Ends, Yields, reader_after as intake_reader}
use Rattle.mediator_offline.specs.declared.job.OfflineJob.{OfflineJob}
use Rattle.mediator_offline.specs.Failing.{FailsOnly}
use Rattle.mediator_offline.specs.Ports.{holding, with_left}
use Rattle.mediator_offline.specs.Filtering.{StopsSomewhere}
use Rattle.mediator_offline.specs.Reaching.{StopsAmong}
use Rattle.mediator_offline.proofs.Blaming.{only_then}
use Rattle.mediator_offline.proofs.Receiving.{err_gives}
use Rattle.mediator_offline.proofs.Ends.{reading_starts, runs_after, reads_on, message_stops, intake_stops, intake_only, stream_ends}
use Rattle.mediator_offline.proofs.run.OfflineRun.read_stream.Goals as goal

pub reads-init : goal.reads-init
reads-init g c = (reading_starts c.args.self.now c.args.intake.now c.args.self.now.job _ c.requires.opened c.requires.intake, c.requires.reader, refl, refl, c.new-gathered.ensures.items)

pub returns-in_err-messages-clause-err : goal.returns-in_err-messages-clause-err
returns-in_err-messages-clause-err g c =
    err_gives c.from_residual.result c.from_residual.ensures
    (λ e is.
    let before =
    with_left (g.R.Source.remaining c.args.reader.now) (g.R.Source.has_failed c.args.reader.now)
    (holding (g.W.Sink.contents c.args.writer.now) (g.A.AuditSink.contents c.args.audit_writer.now) (g.W.Sink.has_failed c.args.writer.now) (g.A.AuditSink.has_failed c.args.audit_writer.now)) in
    let mid =
    with_left (g.R.Source.remaining c.reads.reader) (g.R.Source.has_failed c.reads.reader)
    (holding (g.W.Sink.contents c.reads.writer) (g.A.AuditSink.contents c.reads.audit_writer) (g.W.Sink.has_failed c.reads.writer) (g.A.AuditSink.has_failed c.reads.audit_writer)) in
    subst (λ x. StopsSomewhere x c.args.self.now.job before (with_left (g.R.Source.remaining c.next.new.reader) (g.R.Source.has_failed c.next.new.reader) mid.outputs)) (sym is)
    (intake_stops c.in_err-messages.field-0.0 c.reads.self c.reads.intake c.next.new.self c.args.self.now.job before mid (g.R.Source.remaining c.next.new.reader) (g.R.Source.has_failed c.next.new.reader) c.reads.invariant.0 c.in_err-messages.ensures.err
    (c.in_err-messages.ensures.fails ∙ ap (intake_reader c.in_err-messages.field-0.0) c.reads.invariant.1)))

pub returns-in_err-messages-clause-fails : goal.returns-in_err-messages-clause-fails
returns-in_err-messages-clause-fails g c =
    err_gives c.from_residual.result c.from_residual.ensures
    (λ e is. intake_only c.in_err-messages.field-0.0 e (g.W.Sink.has_failed c.args.writer.now) (g.W.Sink.has_failed c.reads.writer) (g.A.AuditSink.has_failed c.args.audit_writer.now) (g.A.AuditSink.has_failed c.reads.audit_writer) (g.R.Source.has_failed c.next.new.reader) is (c.in_err-messages.ensures.fails ∙ ap (intake_reader c.in_err-messages.field-0.0) c.reads.invariant.1) c.reads.invariant.2 c.reads.invariant.3)

pub returns-in_default-clause-ok : goal.returns-in_default-clause-ok
returns-in_default-clause-ok g c =
    stream_ends c.reads.self c.reads.intake c.next.new.self c.args.self.now.job _ _ (g.R.Source.remaining c.next.new.reader) (g.R.Source.has_failed c.next.new.reader) c.reads.invariant.0
    (subst (λ o. MatchOption o (Ends c.reads.intake (g.R.Source.remaining c.reads.reader) (g.R.Source.remaining c.next.new.reader) c.next.new.self) (λ out. Yields c.reads.intake (g.R.Source.remaining c.reads.reader) (g.R.Source.remaining c.next.new.reader) out.items c.next.new.self)) c.in_default.is c.in_ok-messages.ensures.ok)

pub returns-in_default-clause-reads : goal.returns-in_default-clause-reads
returns-in_default-clause-reads g c = c.in_ok-messages.ensures.sound ∙ c.reads.invariant.1

pub returns-in_default-clause-stays : goal.returns-in_default-clause-stays
returns-in_default-clause-stays g c = c.reads.invariant.2

pub returns-in_default-clause-audit_stays : goal.returns-in_default-clause-audit_stays
returns-in_default-clause-audit_stays g c = c.reads.invariant.3

pub handle_all-requires-clause-running : goal.handle_all-requires-clause-running
handle_all-requires-clause-running g c = runs_after c.reads.self c.reads.intake c.args.self.now.job _ _ c.reads.invariant.0

pub handle_all-requires-clause-none : goal.handle_all-requires-clause-none
handle_all-requires-clause-none g c = c.reads.invariant.4

pub handle_all-requires-clause-asked : goal.handle_all-requires-clause-asked
handle_all-requires-clause-asked g c = ap (λ (j : OfflineJob). j.audit) c.reads.invariant.0.running.job_is ∙ c.requires.asked

pub returns-in_err-handle_all-clause-err : goal.returns-in_err-handle_all-clause-err
returns-in_err-handle_all-clause-err g c =
    err_gives c.from_residual-in_err-handle_all.result c.from_residual-in_err-handle_all.ensures
    (λ e is. message_stops e c.reads.self c.reads.intake c.next.new.self c.args.self.now.job _ _ _ c.in-Some.messages.items c.reads.invariant.0
    (subst (λ o. MatchOption o (Ends c.reads.intake (g.R.Source.remaining c.reads.reader) (g.R.Source.remaining c.next.new.reader) c.next.new.self) (λ out. Yields c.reads.intake (g.R.Source.remaining c.reads.reader) (g.R.Source.remaining c.next.new.reader) out.items c.next.new.self)) c.in-Some.is c.in_ok-messages.ensures.ok)
    (subst (λ x. StopsAmong x c.reads.self c.in-Some.messages.items
    (holding (g.W.Sink.contents c.reads.writer) (g.A.AuditSink.contents c.reads.audit_writer) (g.W.Sink.has_failed c.reads.writer) (g.A.AuditSink.has_failed c.reads.audit_writer))
    (holding (g.W.Sink.contents c.handle_all.new.writer) (g.A.AuditSink.contents c.handle_all.new.audit_writer) (g.W.Sink.has_failed c.handle_all.new.writer) (g.A.AuditSink.has_failed c.handle_all.new.audit_writer)))
    (sym is) c.in_err-handle_all.ensures.err))

pub returns-in_err-handle_all-clause-fails : goal.returns-in_err-handle_all-clause-fails
returns-in_err-handle_all-clause-fails g c =
    err_gives c.from_residual-in_err-handle_all.result c.from_residual-in_err-handle_all.ensures
    (λ e is. subst (λ r. FailsOnly e (g.W.Sink.has_failed c.args.writer.now) (g.A.AuditSink.has_failed c.args.audit_writer.now) r (g.W.Sink.has_failed c.handle_all.new.writer) (g.A.AuditSink.has_failed c.handle_all.new.audit_writer)) (sym (c.in_ok-messages.ensures.sound ∙ c.reads.invariant.1))
    (only_then e c.in_err-handle_all.field-0.0 (g.W.Sink.has_failed c.args.writer.now) (g.W.Sink.has_failed c.reads.writer) (g.A.AuditSink.has_failed c.args.audit_writer.now) (g.A.AuditSink.has_failed c.reads.audit_writer) false (g.W.Sink.has_failed c.handle_all.new.writer) (g.A.AuditSink.has_failed c.handle_all.new.audit_writer) is c.reads.invariant.2 c.reads.invariant.3 c.in_err-handle_all.ensures.fails))

pub reads-smaller : goal.reads-smaller
reads-smaller g c = let t = (subst (λ o. MatchOption o (Ends c.reads.intake (g.R.Source.remaining c.reads.reader) (g.R.Source.remaining c.next.new.reader) c.next.new.self) (λ out. Yields c.reads.intake (g.R.Source.remaining c.reads.reader) (g.R.Source.remaining c.next.new.reader) out.items c.next.new.self)) c.in-Some.is c.in_ok-messages.ensures.ok) in omega (arith, t.turn.0)

pub reads-preserved : goal.reads-preserved
reads-preserved g c = (
  reads_on c.reads.self c.handle_all.new.self c.reads.intake c.next.new.self c.args.self.now.job _ _ _ c.in-Some.messages.items c.reads.invariant.0
      (subst (λ o. MatchOption o (Ends c.reads.intake (g.R.Source.remaining c.reads.reader) (g.R.Source.remaining c.next.new.reader) c.next.new.self) (λ out. Yields c.reads.intake (g.R.Source.remaining c.reads.reader) (g.R.Source.remaining c.next.new.reader) out.items c.next.new.self)) c.in-Some.is c.in_ok-messages.ensures.ok)
      c.in_ok-handle_all.ensures.ok,
  c.in_ok-messages.ensures.sound ∙ c.reads.invariant.1,
  c.in_ok-handle_all.ensures.stays ∙ c.reads.invariant.2,
  c.in_ok-handle_all.ensures.audit_stays ∙ c.reads.invariant.3,
  c.handle_all.ensures.none,
)
