use Rattle.std.proofs.Common.{false, inl, inr, sym, ap, ◌∙◌, subst}
use Rattle.std.proofs.KnownBytes.{Appends-nil, Consumes-nil}
use Rattle.mediator_offline.specs.declared.job.OfflineJob.{OfflineJob}
use Rattle.mediator_offline.specs.Ports.{holding, with_left}
use Rattle.mediator_offline.specs.Filtering.{FiltersAll, StopsSomewhere, FailsToFilter}
use Rattle.mediator_offline.specs.Reaching.{ReachesEnd}
use Rattle.mediator_offline.proofs.Receiving.{err_gives}
use Rattle.mediator_offline.proofs.Blaming.{only_then}
use Rattle.mediator_offline.proofs.Ends.{finishes, end_serves, where_unfailed}
use Rattle.mediator_offline.proofs.engine.filter.Goals as goal

pub report-requires : goal.report-requires
report-requires g c = record { serving = end_serves c.read_stream.new.self _ _ _ c.in_ok-read_stream.ensures.ok }

pub returns-clause-filters : goal.returns-clause-filters
returns-clause-filters g c =
    let before =
    with_left (g.R.Source.remaining c.args.reader.now) (g.R.Source.has_failed c.args.reader.now)
    (holding (g.W.Sink.contents c.args.writer.now) (g.A.AuditSink.contents c.args.audit_writer.now) (g.W.Sink.has_failed c.args.writer.now) (g.A.AuditSink.has_failed c.args.audit_writer.now)) in
    let after =
    with_left (g.R.Source.remaining c.read_stream.new.reader) (g.R.Source.has_failed c.read_stream.new.reader)
    (holding (g.W.Sink.contents c.read_stream.new.writer) (g.A.AuditSink.contents c.read_stream.new.audit_writer) (g.W.Sink.has_failed c.read_stream.new.writer) (g.A.AuditSink.has_failed c.read_stream.new.audit_writer)) in
    where_unfailed (λ b. FiltersAll c.args.job.now c.report.result b after) (g.R.Source.remaining c.args.reader.now) (g.W.Sink.contents c.args.writer.now) (g.A.AuditSink.contents c.args.audit_writer.now) (g.R.Source.has_failed c.args.reader.now) (g.W.Sink.has_failed c.args.writer.now) (g.A.AuditSink.has_failed c.args.audit_writer.now) c.requires.reader c.requires.writer c.requires.audit
    (finishes c.read_stream.new.self c.args.job.now c.report.result before after
    (subst (λ j. ReachesEnd c.read_stream.new.self j before after) c.in_ok-run.ensures.ok.job_is c.in_ok-read_stream.ensures.ok)
    c.report.ensures.messages c.report.ensures.records c.report.ensures.disclosed)

pub returns-in_err-run-clause-stops : goal.returns-in_err-run-clause-stops
returns-in_err-run-clause-stops g c =
    err_gives c.from_residual.result c.from_residual.ensures
    (λ e is. inl (record {
      why = c.in_err-run.field-0.0;
      is = is;
      refuses = c.in_err-run.ensures.err;
      taken = Consumes-nil (g.R.Source.remaining c.args.reader.now);
      writes = record { stream = Appends-nil (g.W.Sink.contents c.args.writer.now); audit = Appends-nil (g.A.AuditSink.contents c.args.audit_writer.now) };
    }))

pub returns-in_err-read_stream-clause-stops : goal.returns-in_err-read_stream-clause-stops
returns-in_err-read_stream-clause-stops g c =
    err_gives c.from_residual-in_err-read_stream.result c.from_residual-in_err-read_stream.ensures
    (λ e is.
    let before =
    with_left (g.R.Source.remaining c.args.reader.now) (g.R.Source.has_failed c.args.reader.now)
    (holding (g.W.Sink.contents c.args.writer.now) (g.A.AuditSink.contents c.args.audit_writer.now) (g.W.Sink.has_failed c.args.writer.now) (g.A.AuditSink.has_failed c.args.audit_writer.now)) in
    let after =
    with_left (g.R.Source.remaining c.read_stream.new.reader) (g.R.Source.has_failed c.read_stream.new.reader)
    (holding (g.W.Sink.contents c.read_stream.new.writer) (g.A.AuditSink.contents c.read_stream.new.audit_writer) (g.W.Sink.has_failed c.read_stream.new.writer) (g.A.AuditSink.has_failed c.read_stream.new.audit_writer)) in
    where_unfailed (λ b. FailsToFilter e c.args.job.now b after) (g.R.Source.remaining c.args.reader.now) (g.W.Sink.contents c.args.writer.now) (g.A.AuditSink.contents c.args.audit_writer.now) (g.R.Source.has_failed c.args.reader.now) (g.W.Sink.has_failed c.args.writer.now) (g.A.AuditSink.has_failed c.args.audit_writer.now) c.requires.reader c.requires.writer c.requires.audit
    (inr (subst (λ x. StopsSomewhere x c.args.job.now before after) (sym is) (subst (λ j. StopsSomewhere c.in_err-read_stream.field-0.0 j before after) c.in_ok-run.ensures.ok.job_is c.in_err-read_stream.ensures.err))))

pub returns-clause-sound : goal.returns-clause-sound
returns-clause-sound g c = (c.in_ok-read_stream.ensures.reads, c.in_ok-read_stream.ensures.stays ∙ c.requires.writer, c.in_ok-read_stream.ensures.audit_stays ∙ c.requires.audit)

pub returns-in_err-run-clause-fails : goal.returns-in_err-run-clause-fails
returns-in_err-run-clause-fails g c =
    err_gives c.from_residual.result c.from_residual.ensures (λ e is. rw is (record { reader = c.requires.reader; writer = c.requires.writer; audit = c.requires.audit }))

pub returns-in_err-read_stream-clause-fails : goal.returns-in_err-read_stream-clause-fails
returns-in_err-read_stream-clause-fails g c =
    err_gives c.from_residual-in_err-read_stream.result c.from_residual-in_err-read_stream.ensures
    (λ e is. only_then e c.in_err-read_stream.field-0.0 false (g.W.Sink.has_failed c.args.writer.now) false (g.A.AuditSink.has_failed c.args.audit_writer.now) (g.R.Source.has_failed c.read_stream.new.reader) (g.W.Sink.has_failed c.read_stream.new.writer) (g.A.AuditSink.has_failed c.read_stream.new.audit_writer) is c.requires.writer c.requires.audit c.in_err-read_stream.ensures.fails)

pub read_stream-requires-clause-asked : goal.read_stream-requires-clause-asked
read_stream-requires-clause-asked g c = ap (λ (j : OfflineJob). j.audit) c.in_ok-run.ensures.ok.job_is ∙ c.requires.asked
