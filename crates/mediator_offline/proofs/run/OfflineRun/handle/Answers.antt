use Rattle.std.proofs.Common.{◌≡◌, false, refl, sym, ap, ◌∙◌, subst}
use Rattle.mediator_offline.specs.declared.job.OfflineJob.{OfflineJob}
use Rattle.mediator_offline.specs.Ports.{holding}
use Rattle.mediator_offline.specs.Offline.{due}
use Rattle.mediator_offline.specs.Steps.{TakesMessage}
use Rattle.mediator_offline.specs.Gathering.{and_gathered}
use Rattle.mediator_offline.specs.Pulling.{FailsDelivery}
use Rattle.mediator_offline.specs.Failing.{StopsLines}
use Rattle.mediator_offline.specs.Filtering.{StopsAtMessage}
use Rattle.mediator_offline.proofs.Blaming.{lines_only, delivery_only}
use Rattle.mediator_offline.proofs.Receiving.{err_gives, on_err}
use Rattle.mediator_offline.proofs.GatheringLaws.{gathered_same, is_unasked, is_false}
use Rattle.mediator_offline.proofs.InHand.{stops_refused, stops_recording, stops_delivering, delivered, handled, was_cut_at, stops_cut, stops_cut_recording, delivered_history}
use Rattle.mediator_offline.proofs.run.OfflineRun.handle.Goals as goal

pub returns-in_err-receive-clause-err : goal.returns-in_err-receive-clause-err
returns-in_err-receive-clause-err g c =
    err_gives c.from_residual.result c.from_residual.ensures
    (λ e is.
    let before = holding (and_gathered (g.W.Sink.contents c.args.writer.now) c.args.gathered.now.items) (g.A.AuditSink.contents c.args.audit_writer.now) (g.W.Sink.has_failed c.args.writer.now) (g.A.AuditSink.has_failed c.args.audit_writer.now) in
    record {
      stops = λ job messages first r. subst (λ x. StopsAtMessage x job messages (due job messages) c.args.message first before) (sym is)
          (stops_refused c.in_err-receive.field-0.0 c.args.self.now job messages c.args.message first before r (c.in_err-receive.ensures.err.after _ r.stands r.small));
    })

pub returns-in_err-record-clause-err : goal.returns-in_err-record-clause-err
returns-in_err-record-clause-err g c =
    err_gives c.from_residual-in_err-record.result c.from_residual-in_err-record.ensures
    (λ e is.
    let before = holding (and_gathered (g.W.Sink.contents c.args.writer.now) c.args.gathered.now.items) (g.A.AuditSink.contents c.args.audit_writer.now) (g.W.Sink.has_failed c.args.writer.now) (g.A.AuditSink.has_failed c.args.audit_writer.now) in
    record {
      stops = λ job messages first r.
          stops_cut_recording e c.args.self.now c.receive.new.self job messages c.args.message first before (g.A.AuditSink.contents c.record.new.writer) (g.W.Sink.has_failed c.args.writer.now) (g.A.AuditSink.has_failed c.record.new.writer) r
          (was_cut_at c.args.self.now c.receive.new.self job messages c.args.message r (subst (λ b. TakesMessage c.args.self.now c.args.message b c.receive.new.self) c.if-branch.true c.in_ok-receive.ensures.ok) c.in_ok-receive.ensures.job)
          (subst (λ x. StopsLines x (g.A.AuditSink.has_failed c.record.new.writer)) (sym is) c.in_err-record.ensures.cause) c.record.ensures.kept c.in_err-record.ensures.err;
    })

pub returns-then-branch-clause-err : goal.returns-then-branch-clause-err
returns-then-branch-clause-err g c =
    let before = holding (and_gathered (g.W.Sink.contents c.args.writer.now) c.args.gathered.now.items) (g.A.AuditSink.contents c.args.audit_writer.now) (g.W.Sink.has_failed c.args.writer.now) (g.A.AuditSink.has_failed c.args.audit_writer.now) in
    record {
      stops = λ job messages first r.
          stops_cut c.args.self.now c.receive.new.self job messages c.args.message first before (g.A.AuditSink.contents c.record.new.writer) (g.W.Sink.has_failed c.args.writer.now) (g.A.AuditSink.has_failed c.record.new.writer) r
          (was_cut_at c.args.self.now c.receive.new.self job messages c.args.message r (subst (λ b. TakesMessage c.args.self.now c.args.message b c.receive.new.self) c.if-branch.true c.in_ok-receive.ensures.ok) c.in_ok-receive.ensures.job)
          c.record.ensures.kept c.in_ok-record.ensures.written;
    }

pub returns-in_err-deliver-clause-err : goal.returns-in_err-deliver-clause-err
returns-in_err-deliver-clause-err g c =
    err_gives c.from_residual-in_err-deliver.result c.from_residual-in_err-deliver.ensures
    (λ e is.
    let after = and_gathered (g.W.Sink.contents c.deliver.new.writer) c.deliver.new.gathered.items in
    record {
      stops = λ job messages first r.
          stops_delivering e c.args.self.now c.receive.new.self job messages c.args.message c.args.gathered.now.items first (g.W.Sink.contents c.args.writer.now) (g.A.AuditSink.contents c.args.audit_writer.now) after (g.W.Sink.has_failed c.args.writer.now) (g.W.Sink.has_failed c.deliver.new.writer) (g.A.AuditSink.has_failed c.args.audit_writer.now) r
          (subst (λ b. TakesMessage c.args.self.now c.args.message b c.receive.new.self) c.if-branch.false c.in_ok-receive.ensures.ok)
          c.in_ok-receive.ensures.job c.in_ok-receive.ensures.sent c.in_err-deliver.ensures.below
          (subst (λ x. FailsDelivery x c.receive.new.self c.args.gathered.now.items (g.W.Sink.contents c.args.writer.now) after (g.W.Sink.has_failed c.deliver.new.writer)) (sym is) c.in_err-deliver.ensures.err);
    })

pub returns-in_err-record-2-clause-err : goal.returns-in_err-record-2-clause-err
returns-in_err-record-2-clause-err g c =
    err_gives c.from_residual-in_err-record-2.result c.from_residual-in_err-record-2.ensures
    (λ e is.
    let before = holding (and_gathered (g.W.Sink.contents c.args.writer.now) c.args.gathered.now.items) (g.A.AuditSink.contents c.args.audit_writer.now) (g.W.Sink.has_failed c.args.writer.now) (g.A.AuditSink.has_failed c.args.audit_writer.now) in
    let after = holding (and_gathered (g.W.Sink.contents c.deliver.new.writer) c.deliver.new.gathered.items) (g.A.AuditSink.contents c.record-2.new.writer) (g.W.Sink.has_failed c.deliver.new.writer) (g.A.AuditSink.has_failed c.record-2.new.writer) in
    record {
      stops = λ job messages first r.
          stops_recording e c.args.self.now c.deliver.new.self job messages c.args.message first before after r
          (delivered c.args.self.now c.receive.new.self c.deliver.new.self job messages c.args.message (and_gathered (g.W.Sink.contents c.deliver.new.writer) c.deliver.new.gathered.items) r (record { receives = (subst (λ b. TakesMessage c.args.self.now c.args.message b c.receive.new.self) c.if-branch.false c.in_ok-receive.ensures.ok); job = c.in_ok-receive.ensures.job; sent = c.in_ok-receive.ensures.sent; below = c.in_ok-deliver.ensures.below; now_below = c.in_ok-deliver.ensures.now_below; delivers = c.in_ok-deliver.ensures.ok }))
          (subst (λ x. StopsLines x (g.A.AuditSink.has_failed c.record-2.new.writer)) (sym is) c.in_err-record-2.ensures.cause) c.record-2.ensures.kept c.in_err-record-2.ensures.err;
    })

pub returns-clause-ok : goal.returns-clause-ok
returns-clause-ok g c = record {
  running = λ job messages first r.
      handled c.args.self.now c.deliver.new.self c.record-2.new.self job messages c.args.message r
      (delivered c.args.self.now c.receive.new.self c.deliver.new.self job messages c.args.message (and_gathered (g.W.Sink.contents c.deliver.new.writer) c.deliver.new.gathered.items) r (record { receives = (subst (λ b. TakesMessage c.args.self.now c.args.message b c.receive.new.self) c.if-branch.false c.in_ok-receive.ensures.ok); job = c.in_ok-receive.ensures.job; sent = c.in_ok-receive.ensures.sent; below = c.in_ok-deliver.ensures.below; now_below = c.in_ok-deliver.ensures.now_below; delivers = c.in_ok-deliver.ensures.ok }))
      c.in_ok-record-2.ensures.drained c.record-2.ensures.kept c.in_ok-record-2.ensures.written;
}

pub returns-in_err-receive-clause-fails : goal.returns-in_err-receive-clause-fails
returns-in_err-receive-clause-fails g c =
    err_gives c.from_residual.result c.from_residual.ensures (λ e is. rw is (record { reader = refl; writer = refl; audit = refl }))

pub returns-in_err-record-clause-fails : goal.returns-in_err-record-clause-fails
returns-in_err-record-clause-fails g c =
    err_gives c.from_residual-in_err-record.result c.from_residual-in_err-record.ensures
    (λ e is. lines_only e c.in_err-record.field-0.0 (g.W.Sink.has_failed c.args.writer.now) (g.W.Sink.has_failed c.args.writer.now) (g.A.AuditSink.has_failed c.args.audit_writer.now) (g.A.AuditSink.has_failed c.record.new.writer) is c.in_err-record.ensures.cause c.in_err-record.ensures.fails refl)

pub returns-then-branch-clause-fails : goal.returns-then-branch-clause-fails
returns-then-branch-clause-fails g c = record { reader = refl; writer = refl; audit = c.in_ok-record.ensures.stays }

pub returns-in_err-deliver-clause-fails : goal.returns-in_err-deliver-clause-fails
returns-in_err-deliver-clause-fails g c =
    err_gives c.from_residual-in_err-deliver.result c.from_residual-in_err-deliver.ensures
    (λ e is. delivery_only e c.in_err-deliver.field-0.0 c.receive.new.self c.args.gathered.now.items (g.W.Sink.contents c.args.writer.now) (and_gathered (g.W.Sink.contents c.deliver.new.writer) c.deliver.new.gathered.items) (g.W.Sink.has_failed c.args.writer.now) (g.W.Sink.has_failed c.deliver.new.writer) (g.A.AuditSink.has_failed c.args.audit_writer.now) is c.in_err-deliver.ensures.err c.in_err-deliver.ensures.fails)

pub returns-in_err-record-2-clause-fails : goal.returns-in_err-record-2-clause-fails
returns-in_err-record-2-clause-fails g c =
    err_gives c.from_residual-in_err-record-2.result c.from_residual-in_err-record-2.ensures
    (λ e is. lines_only e c.in_err-record-2.field-0.0 (g.W.Sink.has_failed c.args.writer.now) (g.W.Sink.has_failed c.deliver.new.writer) (g.A.AuditSink.has_failed c.args.audit_writer.now) (g.A.AuditSink.has_failed c.record-2.new.writer) is c.in_err-record-2.ensures.cause c.in_err-record-2.ensures.fails c.in_ok-deliver.ensures.stays)

pub record-requires-2-clause-known : goal.record-requires-2-clause-known
record-requires-2-clause-known g c = delivered_history c.args.self.now c.receive.new.self c.deliver.new.self c.args.message (and_gathered (g.W.Sink.contents c.args.writer.now) c.args.gathered.now.items) (and_gathered (g.W.Sink.contents c.deliver.new.writer) c.deliver.new.gathered.items) c.requires.running (subst (λ b. TakesMessage c.args.self.now c.args.message b c.receive.new.self) c.if-branch.false c.in_ok-receive.ensures.ok) c.in_ok-deliver.ensures.ok

pub record-requires-clause-asked : goal.record-requires-clause-asked
record-requires-clause-asked g c = ap (λ (j : OfflineJob). j.audit) c.in_ok-receive.ensures.job ∙ c.requires.asked

pub record-requires-2-clause-asked : goal.record-requires-2-clause-asked
record-requires-2-clause-asked g c = ap (λ (j : OfflineJob). j.audit) (c.in_ok-deliver.ensures.ok.job ∙ c.in_ok-receive.ensures.job) ∙ c.requires.asked

-- ---- what is gathered

pub deliver-requires-clause-gathered : goal.deliver-requires-clause-gathered
deliver-requires-clause-gathered g c = gathered_same c.args.self.now c.receive.new.self c.args.gathered.now.items c.args.gathered.now.items c.requires.gathered c.in_ok-receive.ensures.job c.in_ok-receive.ensures.sent refl

pub returns-in_err-receive-clause-gathers : goal.returns-in_err-receive-clause-gathers
returns-in_err-receive-clause-gathers g c = gathered_same c.args.self.now c.receive.new.self c.args.gathered.now.items c.args.gathered.now.items c.requires.gathered c.in_err-receive.ensures.job c.in_err-receive.ensures.sent refl

pub returns-in_err-record-clause-gathers : goal.returns-in_err-record-clause-gathers
returns-in_err-record-clause-gathers g c =
    gathered_same c.args.self.now c.record.new.self c.args.gathered.now.items c.args.gathered.now.items c.requires.gathered (c.in_err-record.ensures.job ∙ c.in_ok-receive.ensures.job) (c.in_err-record.ensures.sent ∙ c.in_ok-receive.ensures.sent) refl

pub returns-then-branch-clause-gathers : goal.returns-then-branch-clause-gathers
returns-then-branch-clause-gathers g c =
    gathered_same c.args.self.now c.record.new.self c.args.gathered.now.items c.args.gathered.now.items c.requires.gathered (c.in_ok-record.ensures.job ∙ c.in_ok-receive.ensures.job) (c.in_ok-record.ensures.sent ∙ c.in_ok-receive.ensures.sent) refl

pub returns-in_err-deliver-clause-gathers : goal.returns-in_err-deliver-clause-gathers
returns-in_err-deliver-clause-gathers g c = c.in_err-deliver.ensures.gathers

pub returns-in_err-record-2-clause-gathers : goal.returns-in_err-record-2-clause-gathers
returns-in_err-record-2-clause-gathers g c =
    gathered_same c.deliver.new.self c.record-2.new.self c.deliver.new.gathered.items c.deliver.new.gathered.items c.in_ok-deliver.ensures.gathers c.in_err-record-2.ensures.job c.in_err-record-2.ensures.sent refl

pub returns-clause-gathers : goal.returns-clause-gathers
returns-clause-gathers g c =
    gathered_same c.deliver.new.self c.record-2.new.self c.deliver.new.gathered.items c.deliver.new.gathered.items c.in_ok-deliver.ensures.gathers c.in_ok-record-2.ensures.job c.in_ok-record-2.ensures.sent refl

-- ---- what is left where it stops

pub returns-in_err-receive-clause-left : goal.returns-in_err-receive-clause-left
returns-in_err-receive-clause-left g c = on_err c.from_residual.result (λ some. record { sent = c.in_err-receive.ensures.sent; same = refl; outputs = refl })

pub returns-in_err-record-clause-left : goal.returns-in_err-record-clause-left
returns-in_err-record-clause-left g c =
    on_err c.from_residual-in_err-record.result
    (λ some. absurd (is_unasked c.args.self.now c.args.gathered.now.items c.requires.gathered some (sym (ap (λ j. j.audit) c.in_ok-receive.ensures.job) ∙ c.in_err-record.ensures.asked)))

pub returns-then-branch-clause-left : goal.returns-then-branch-clause-left
returns-then-branch-clause-left g c = λ some.
    let unasked : c.receive.new.self.job.audit ≡ false =
    ap (λ j. j.audit) c.in_ok-receive.ensures.job ∙ is_false c.args.self.now.job.audit (is_unasked c.args.self.now c.args.gathered.now.items c.requires.gathered some) in
    record {
      sent = c.in_ok-record.ensures.sent ∙ c.in_ok-receive.ensures.sent;
      same = refl;
      outputs = ap (λ a. holding (and_gathered (g.W.Sink.contents c.args.writer.now) c.args.gathered.now.items) (g.A.AuditSink.contents a) (g.W.Sink.has_failed c.args.writer.now) (g.A.AuditSink.has_failed a)) (c.in_ok-record.ensures.unasked unasked);
    }

pub returns-in_err-deliver-clause-left : goal.returns-in_err-deliver-clause-left
returns-in_err-deliver-clause-left g c =
    on_err c.from_residual-in_err-deliver.result
    (λ some.
    let k = c.in_err-deliver.ensures.left some in
    record {
      sent = k.2 ∙ c.in_ok-receive.ensures.sent;
      same = k.0;
      outputs =
          ap (λ w. holding (and_gathered (g.W.Sink.contents w) c.deliver.new.gathered.items) (g.A.AuditSink.contents c.args.audit_writer.now) (g.W.Sink.has_failed w) (g.A.AuditSink.has_failed c.args.audit_writer.now)) k.1
          ∙ ap (λ t. holding (and_gathered (g.W.Sink.contents c.args.writer.now) t) (g.A.AuditSink.contents c.args.audit_writer.now) (g.W.Sink.has_failed c.args.writer.now) (g.A.AuditSink.has_failed c.args.audit_writer.now)) k.0;
    })

pub returns-in_err-record-2-clause-left : goal.returns-in_err-record-2-clause-left
returns-in_err-record-2-clause-left g c =
    on_err c.from_residual-in_err-record-2.result
    (λ some. absurd (is_unasked c.deliver.new.self c.deliver.new.gathered.items c.in_ok-deliver.ensures.gathers some c.in_err-record-2.ensures.asked))
