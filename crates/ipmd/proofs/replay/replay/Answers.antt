use Rattle.std.proofs.Common.{◌≡◌, subst, sym}
use Rattle.octet_io.specs.Device.{device_inner}
use Rattle.mediator_offline.proofs.Receiving.{err_gives}
use Rattle.ipmd_commands.specs.Failures.{IsFileFault}
use Rattle.replay_text.specs.Answers.{answers_text}
use Rattle.ipmd.proofs.Replaying.{no_calls, no_journal, answered, unanswered}
use Rattle.ipmd.proofs.replay.replay.Goals as goal

pub returns-in_err-text-clause-err : goal.returns-in_err-text-clause-err
returns-in_err-text-clause-err g c =
    let held = g.O.Write.contents (device_inner c.args.output.now) in
    err_gives c.from_residual.result c.from_residual.ensures
    (λ e is. no_calls c.args.options.now e held (subst (IsFileFault c.args.options.now.calls.now) (sym is) c.in_err-text.ensures.err))

pub returns-in_err-keep_journal-clause-err : goal.returns-in_err-keep_journal-clause-err
returns-in_err-keep_journal-clause-err g c =
    let held = g.O.Write.contents (device_inner c.args.output.now) in
    err_gives c.from_residual-in_err-keep_journal.result c.from_residual-in_err-keep_journal.ensures
    (λ e is. no_journal c.args.options.now c.in-Some.path e held c.in-Some.is (subst (IsFileFault c.in-Some.path.now) (sym is) c.in_err-keep_journal.ensures.err))

pub returns-clause-ok : goal.returns-clause-ok
returns-clause-ok g c =
    let shown = c.as_str-2.ensures.value in
    let told = c.in_ok-answers.ensures in
    let lent = c.deref.ensures.value in
    let parts = c.in_ok-replies.replies-is in
    let is : c.as_str-2.result.now ≡ answers_text c.in_ok-replies.field-0.replies.items = cc in
    answered c.write_text.result _ _ c.as_str.result.now c.as_str-2.result.now c.in_ok-replies.field-0 c.in_ok-replies.ensures.ok is c.write_text.ensures.ok

pub returns-clause-err : goal.returns-clause-err
returns-clause-err g c =
    let shown = c.as_str-2.ensures.value in
    let told = c.in_ok-answers.ensures in
    let lent = c.deref.ensures.value in
    let parts = c.in_ok-replies.replies-is in
    let is : c.as_str-2.result.now ≡ answers_text c.in_ok-replies.field-0.replies.items = cc in
    unanswered c.write_text.result c.args.options.now _ _ c.as_str.result.now c.as_str-2.result.now c.in_ok-replies.field-0 c.in_ok-replies.ensures.ok is c.write_text.ensures.err
