use Rattle.std.proofs.Common.{◌<◌, false, length, refl, sym, ap, ◌∙◌, subst}
use Rattle.std.specs.Vec.Iter.{into_iter_items}
use Rattle.mediator_offline.specs.declared.job.OfflineJob.{OfflineJob}
use Rattle.mediator_offline.specs.Ports.{holding}
use Rattle.mediator_offline.specs.Gathering.{and_gathered}
use Rattle.mediator_offline.specs.Running.{StopsOn}
use Rattle.mediator_offline.proofs.Blaming.{only_then}
use Rattle.mediator_offline.proofs.Receiving.{err_gives}
use Rattle.mediator_offline.proofs.GatheringLaws.{nothing_gathered, nothing_left}
use Rattle.mediator_offline.proofs.Streams.{runs_on, none_handled, one_handled, one_stops, last_handled, last_kept}
use Rattle.mediator_offline.proofs.run.OfflineRun.handle_each.Goals as goal

pub handle-requires-clause-running : goal.handle-requires-clause-running
handle-requires-clause-running g c = runs_on c.args.self.now c.messages.self c.messages.invariant.0.done _ _ c.requires.running c.messages.invariant.0.handled

pub handle-requires-clause-asked : goal.handle-requires-clause-asked
handle-requires-clause-asked g c =
    let r = c.requires.running in
    let now = c.messages.invariant.0.handled.running r.job r.messages r.before r.running in
    ap (λ (j : OfflineJob). j.audit) (now.job_is ∙ sym r.running.job_is) ∙ c.requires.asked

pub handle-requires-clause-gathered : goal.handle-requires-clause-gathered
handle-requires-clause-gathered g c = c.messages.invariant.3

pub returns-in_err-handle-clause-err : goal.returns-in_err-handle-clause-err
returns-in_err-handle-clause-err g c =
    err_gives c.from_residual.result c.from_residual.ensures
    (λ e is. one_stops e c.args.self.now c.messages.self c.args.messages.items (into_iter_items c.messages.message-iterator) (into_iter_items c.next.new.self) c.in-Some.message _ _ _ c.in-Some.ensures.steps.0 c.messages.invariant.0
    (subst (λ x. StopsOn x c.messages.self c.in-Some.message
    (holding (and_gathered (g.W.Sink.contents c.messages.writer) c.messages.gathered.items) (g.A.AuditSink.contents c.messages.audit_writer) (g.W.Sink.has_failed c.messages.writer) (g.A.AuditSink.has_failed c.messages.audit_writer))
    (holding (and_gathered (g.W.Sink.contents c.handle.new.writer) c.handle.new.gathered.items) (g.A.AuditSink.contents c.handle.new.audit_writer) (g.W.Sink.has_failed c.handle.new.writer) (g.A.AuditSink.has_failed c.handle.new.audit_writer)))
    (sym is) c.in_err-handle.ensures.err))

pub messages-preserved : goal.messages-preserved
messages-preserved g c = (
  one_handled c.args.self.now c.messages.self c.handle.new.self c.args.messages.items (into_iter_items c.messages.message-iterator) (into_iter_items c.next.new.self) c.in-Some.message _ _ _ c.in-Some.ensures.steps.0 c.messages.invariant.0 c.in_ok-handle.ensures.ok,
  c.in_ok-handle.ensures.stays ∙ c.messages.invariant.1,
  c.in_ok-handle.ensures.audit_stays ∙ c.messages.invariant.2,
  c.in_ok-handle.ensures.gathers,
  last_handled c.args.self.now c.messages.self c.handle.new.self c.args.messages.items (into_iter_items c.messages.message-iterator) (into_iter_items c.next.new.self) c.in-Some.message c.handle.new.gathered.items _ _ _ c.in-Some.ensures.steps.0 c.messages.invariant.0 c.in_ok-handle.ensures.ok c.in_ok-handle.ensures.gathers (c.in_ok-handle.ensures.audit_stays ∙ c.messages.invariant.2),
)

pub returns-in_err-handle-clause-fails : goal.returns-in_err-handle-clause-fails
returns-in_err-handle-clause-fails g c =
    err_gives c.from_residual.result c.from_residual.ensures
    (λ e is. only_then e c.in_err-handle.field-0.0 (g.W.Sink.has_failed c.args.writer.now) (g.W.Sink.has_failed c.messages.writer) (g.A.AuditSink.has_failed c.args.audit_writer.now) (g.A.AuditSink.has_failed c.messages.audit_writer) false (g.W.Sink.has_failed c.handle.new.writer) (g.A.AuditSink.has_failed c.handle.new.audit_writer) is c.messages.invariant.1 c.messages.invariant.2 c.in_err-handle.ensures.fails)

pub messages-init : goal.messages-init
messages-init g c = (none_handled c.args.self.now c.args.messages.items (into_iter_items c.into_iter-message-iterator.result) _ c.into_iter-message-iterator.ensures.into_iter_gives.0, refl, refl, nothing_gathered c.args.self.now c.args.gathered.now.items c.requires.none, λ some. nothing_left c.args.gathered.now.items c.requires.none some)

pub returns-in_err-handle-clause-gathers : goal.returns-in_err-handle-clause-gathers
returns-in_err-handle-clause-gathers g c = c.in_err-handle.ensures.gathers

pub returns-in_err-handle-clause-last : goal.returns-in_err-handle-clause-last
returns-in_err-handle-clause-last g c = λ some.
    let k = c.in_err-handle.ensures.left some in
    last_kept c.args.self.now c.messages.self.sent c.handle.new.self.sent c.args.messages.items _ _ _ (c.messages.invariant.4 (subst (λ t. 0 < length t) k.same some)) k.sent k.outputs

pub returns-clause-gathers : goal.returns-clause-gathers
returns-clause-gathers g c = c.messages.invariant.3

pub returns-clause-last : goal.returns-clause-last
returns-clause-last g c = c.messages.invariant.4
