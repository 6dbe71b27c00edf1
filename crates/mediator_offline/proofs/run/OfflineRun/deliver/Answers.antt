use Rattle.std.proofs.Common.{sym, ◌∙◌}
use Rattle.std.specs.List.{concat}
use Rattle.mediator_offline.proofs.GatheringLaws.{nothing_gathered, gathered_same, gathered_on, nothing_left, differs}
use Rattle.mediator_offline.proofs.Receiving.{err_gives, on_err, ok_leads, err_leads}
use Rattle.mediator_offline.proofs.Delivering.{delivers_gathered, delivers_written, delivers_counts, write_fails, memory_fails}
use Rattle.mediator_offline.proofs.run.OfflineRun.deliver.Goals as goal

pub returns-in_err-pull_all-clause-gathers : goal.returns-in_err-pull_all-clause-gathers
returns-in_err-pull_all-clause-gathers g c =
    gathered_same c.args.self.now c.pull_all.new.self c.args.gathered.now.items c.pull_all.new.gathered.items c.requires.gathered c.pull_all.ensures.job c.in_err-pull_all.ensures.unchanged.1 c.in_err-pull_all.ensures.unchanged.0

pub returns-in_err-pull_all-clause-err : goal.returns-in_err-pull_all-clause-err
returns-in_err-pull_all-clause-err g c =
    err_gives c.from_residual.result c.from_residual.ensures
    (λ e is. memory_fails c.args.self.now (g.W.Sink.contents c.args.writer.now) c.args.gathered.now.items c.pull_all.new.gathered.items e (g.W.Sink.has_failed c.args.writer.now) (is ∙ c.in_err-pull_all.ensures.err) c.in_err-pull_all.ensures.unchanged.0)

pub returns-then-not-is_due-clause-ok : goal.returns-then-not-is_due-clause-ok
returns-then-not-is_due-clause-ok g c = delivers_gathered c.args.self.now c.pull_all.new.self (g.W.Sink.contents c.args.writer.now) c.args.gathered.now.items c.pull_all.new.gathered.items c.in_ok-pull_all.ensures.ok

pub returns-then-not-is_due-clause-gathers : goal.returns-then-not-is_due-clause-gathers
returns-then-not-is_due-clause-gathers g c =
    let d = c.in_ok-pull_all.ensures.ok in
    gathered_on c.args.self.now c.pull_all.new.self c.args.gathered.now.items c.pull_all.new.gathered.items (concat d.messages) c.requires.gathered d.sent d.written
    (λ asked. differs (sym c.if-not-is_due.true ∙ c.is_due.ensures asked))

pub write_gathered-requires : goal.write_gathered-requires
write_gathered-requires g c = record { counted = delivers_counts c.args.self.now c.pull_all.new.self c.args.gathered.now.items c.pull_all.new.gathered.items c.requires.gathered c.in_ok-pull_all.ensures.ok }

pub returns-clause-ok : goal.returns-clause-ok
returns-clause-ok g c =
    ok_leads c.write_gathered.result c.write_gathered.ensures.ok
    (λ so. delivers_written c.args.self.now c.pull_all.new.self (g.W.Sink.contents c.args.writer.now) (g.W.Sink.contents c.write_gathered.new.writer) c.args.gathered.now.items c.pull_all.new.gathered.items c.write_gathered.new.gathered.items c.in_ok-pull_all.ensures.ok so c.write_gathered.ensures.none)

pub returns-clause-gathers : goal.returns-clause-gathers
returns-clause-gathers g c = nothing_gathered c.pull_all.new.self c.write_gathered.new.gathered.items c.write_gathered.ensures.none

pub returns-clause-err : goal.returns-clause-err
returns-clause-err g c =
    err_leads c.write_gathered.result c.write_gathered.ensures.err
    (λ e stops. write_fails c.args.self.now c.pull_all.new.self (g.W.Sink.contents c.args.writer.now) (g.W.Sink.contents c.write_gathered.new.writer) c.args.gathered.now.items c.pull_all.new.gathered.items c.write_gathered.new.gathered.items e (g.W.Sink.has_failed c.write_gathered.new.writer) c.requires.gathered c.in_ok-pull_all.ensures.ok stops c.write_gathered.ensures.none)

pub returns-clause-fails : goal.returns-clause-fails
returns-clause-fails g c = err_leads c.write_gathered.result c.write_gathered.ensures.err (λ e stops. rw stops.is stops.inside.failed)

pub returns-clause-left : goal.returns-clause-left
returns-clause-left g c = on_err c.write_gathered.result (λ some. nothing_left c.write_gathered.new.gathered.items c.write_gathered.ensures.none some)
