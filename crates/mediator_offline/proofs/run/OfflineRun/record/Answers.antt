use Rattle.std.proofs.Common.{refl, sym, ap, subst, ◌∙◌}
use Rattle.std.specs.Prelude.{OnOk, OnErr}
use Rattle.std.specs.Io.KnownBytes.{Appends}
use Rattle.mediator_offline.specs.Runs.{audit_waiting}
use Rattle.mediator_offline.specs.Lines.{audit_text, WritesBeginning}
use Rattle.mediator_offline.proofs.Lines.{lines_for-asked, unasked}
use Rattle.mediator_offline.proofs.GatheringLaws.{differs}
use Rattle.mediator_offline.proofs.Receiving.{on_ok, on_err, drained_are, refused_asked, recorded}
use Rattle.mediator_offline.proofs.run.OfflineRun.record.Goals as goal

-- all that waited is handed out where it is asked for
pub returns-clause-written : goal.returns-clause-written
returns-clause-written g c = subst (λ l. OnOk c.write_entries.result (Appends (g.A.AuditSink.contents c.args.writer.now) (g.A.AuditSink.contents c.write_entries.new.self) l))
    (ap audit_text (drained_are c.args.self.now c.requires.known.history c.in-Ok.entries.items c.requires.known.state c.requires.few (c.in-Ok.ensures.keeps ∙ sym c.requires.asked) c.if-not-self.false
    (λ some. (c.in-Ok.ensures.ok c.requires.known.history c.requires.known.state).0 (sym c.in-Ok.ensures.keeps ∙ some)))
    ∙ sym (lines_for-asked c.args.self.now.job.audit (audit_waiting c.args.self.now) c.if-not-self.false)) c.write_entries.ensures.ok

pub returns-clause-err : goal.returns-clause-err
returns-clause-err g c = subst (λ l. OnErr c.write_entries.result (WritesBeginning (g.A.AuditSink.contents c.args.writer.now) (g.A.AuditSink.contents c.write_entries.new.self) l))
    (ap audit_text (drained_are c.args.self.now c.requires.known.history c.in-Ok.entries.items c.requires.known.state c.requires.few (c.in-Ok.ensures.keeps ∙ sym c.requires.asked) c.if-not-self.false
    (λ some. (c.in-Ok.ensures.ok c.requires.known.history c.requires.known.state).0 (sym c.in-Ok.ensures.keeps ∙ some)))
    ∙ sym (lines_for-asked c.args.self.now.job.audit (audit_waiting c.args.self.now) c.if-not-self.false)) c.write_entries.ensures.err

pub returns-clause-drained : goal.returns-clause-drained
returns-clause-drained g c = on_ok c.write_entries.result (recorded c.args.self.now (record { alloc = c.args.self.now.alloc; job = c.args.self.now.job; state = c.drain_audit.new.self; messages = c.args.self.now.messages; records = c.args.self.now.records; sent = c.args.self.now.sent; message = c.args.self.now.message }) c.requires.few (record {
  same = record { job = refl; messages = refl; records = refl; limits = c.in-Ok.ensures.limits; audit_limit = c.in-Ok.ensures.audit_limit; journal = c.in-Ok.ensures.journaled };
  sent = refl;
  places = c.in-Ok.ensures.places;
  stands = λ h so. (c.in-Ok.ensures.ok h so).1;
  waiting = c.in-Ok.ensures.waiting;
}))

pub returns-then-not-self-clause-drained : goal.returns-then-not-self-clause-drained
returns-then-not-self-clause-drained g c = recorded c.args.self.now (record { alloc = c.args.self.now.alloc; job = c.args.self.now.job; state = c.drain_audit.new.self; messages = c.args.self.now.messages; records = c.args.self.now.records; sent = c.args.self.now.sent; message = c.args.self.now.message }) c.requires.few (record {
  same = record { job = refl; messages = refl; records = refl; limits = c.in-Ok.ensures.limits; audit_limit = c.in-Ok.ensures.audit_limit; journal = c.in-Ok.ensures.journaled };
  sent = refl;
  places = c.in-Ok.ensures.places;
  stands = λ h so. (c.in-Ok.ensures.ok h so).1;
  waiting = c.in-Ok.ensures.waiting;
})

pub returns-then-not-self-clause-written : goal.returns-then-not-self-clause-written
returns-then-not-self-clause-written g c = unasked (g.A.AuditSink.contents c.args.writer.now) c.args.self.now.job.audit (audit_waiting c.args.self.now) c.if-not-self.true

pub returns-in_default-clause-asked : goal.returns-in_default-clause-asked
returns-in_default-clause-asked g c = refused_asked c.args.self.now 4294967295 c.drain_audit.result (c.drain_audit.ensures.keeps ∙ sym c.requires.asked) c.drain_audit.ensures.none c.in_default.not-Ok

pub returns-clause-asked : goal.returns-clause-asked
returns-clause-asked g c = on_err c.write_entries.result c.if-not-self.false

pub returns-clause-unasked : goal.returns-clause-unasked
returns-clause-unasked g c = λ silent. absurd (differs (sym silent ∙ c.if-not-self.false))
