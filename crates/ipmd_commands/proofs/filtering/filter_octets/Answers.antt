use Rattle.std.proofs.Common.{inr, subst}
use Rattle.octet_io.specs.Device.{device_failed, device_inner}
use Rattle.octet_io.specs.Moments.{writer_of}
use Rattle.ipmd_commands.specs.Runs.{EndsOn}
use Rattle.ipmd_commands.proofs.Inputs.{ran}
use Rattle.ipmd_commands.proofs.filtering.filter_octets.Goals as goal

pub returns-then-is_err-clause-err : goal.returns-then-is_err-clause-err
returns-then-is_err-clause-err g c =
    let held = g.O.Write.contents (device_inner c.args.output.now) in
    let holds = g.O.Write.contents (device_inner c.flush.new.self) in
    let audit_held = g.A.AuditSink.contents c.args.audit.now in
    let audit_holds = g.A.AuditSink.contents c.flush_lines.new.self in
    inr (
      c.failed_one-then-is_err.ensures,
      inr (subst (λ input. EndsOn c.args.job.now (g.I.Read.remaining input) (writer_of held holds) (writer_of audit_held audit_holds)) c.new-reader.ensures.inner
          (ran c.args.job.now c.offline-report.result (g.I.Read.remaining (device_inner c.new-reader.result)) held holds audit_held audit_holds
          (record {
            left = g.I.Read.remaining (device_inner c.offline-report.new.reader);
            reader_failed = device_failed c.offline-report.new.reader;
            outputs = record {
              written = g.O.Write.contents (device_inner c.offline-report.new.writer);
              audited = g.A.AuditSink.contents c.offline-report.new.audit_writer;
              writer_failed = device_failed c.offline-report.new.writer;
              audit_failed = g.A.AuditSink.has_failed c.offline-report.new.audit_writer;
            };
          })
          c.offline-report.ensures.filters c.offline-report.ensures.stops c.flush.ensures.octets c.flush_lines.ensures.octets)),
    )
