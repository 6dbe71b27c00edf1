use Rattle.std.proofs.Common.{refl, subst, sym}
use Rattle.std.proofs.lemmas.Result.{IfErr-weaker}
use Rattle.octet_io.specs.Device.{device_inner}
use Rattle.ipmd_commands.specs.Failures.{IsFileFault}
use Rattle.ipmd_commands.proofs.Lines.{kept}
use Rattle.ipmd_explain.proofs.ReadingLaws.{err_gives, refuses_first, refuses_last, refuses_open}
use Rattle.ipmd_explain.proofs.explaining.explain.Goals as goal

pub returns-in_err-file-clause-err : goal.returns-in_err-file-clause-err
returns-in_err-file-clause-err g c =
    let held = g.O.Write.contents (device_inner c.args.output.now) in
    err_gives c.from_residual.result c.from_residual.ensures
    (λ e is. refuses_open c.args.options.now e held held (subst (IsFileFault c.args.options.now.journal.now) (sym is) c.in_err-file.ensures.err) (kept held))

pub returns-in_err-input-clause-err : goal.returns-in_err-input-clause-err
returns-in_err-input-clause-err g c =
    let held = g.O.Write.contents (device_inner c.args.output.now) in
    err_gives c.from_residual-in_err-input.result c.from_residual-in_err-input.ensures
    (λ e is. refuses_open c.args.options.now e held held (subst (IsFileFault c.args.options.now.journal.now) (sym is) c.in_err-input.ensures.err) (kept held))

pub returns-in_err-explain_input-clause-err : goal.returns-in_err-explain_input-clause-err
returns-in_err-explain_input-clause-err g c =
    err_gives c.from_residual-in_err-explain_input.result c.from_residual-in_err-explain_input.ensures
    (λ e is. refuses_first c.question_of-question.result c.args.options.now c.args.options.now.journal.now e c.in_err-explain_input.field-0.0 _ _ _ _ c.question_of-question.ensures refl is
    c.in_err-explain_input.ensures.err)

pub returns-in_err-file-2-clause-err : goal.returns-in_err-file-2-clause-err
returns-in_err-file-2-clause-err g c =
    let held = g.O.Write.contents (device_inner c.args.output.now) in
    err_gives c.from_residual-in_err-file-2.result c.from_residual-in_err-file-2.ensures
    (λ e is. refuses_open c.args.options.now e held held (subst (IsFileFault c.args.options.now.journal.now) (sym is) c.in_err-file-2.ensures.err) (kept held))

pub returns-in_err-input-2-clause-err : goal.returns-in_err-input-2-clause-err
returns-in_err-input-2-clause-err g c =
    let held = g.O.Write.contents (device_inner c.args.output.now) in
    err_gives c.from_residual-in_err-input-2.result c.from_residual-in_err-input-2.ensures
    (λ e is. refuses_open c.args.options.now e held held (subst (IsFileFault c.args.options.now.journal.now) (sym is) c.in_err-input-2.ensures.err) (kept held))

pub returns-clause-err : goal.returns-clause-err
returns-clause-err g c =
    let held = g.O.Write.contents (device_inner c.args.output.now) in
    let holds = g.O.Write.contents (device_inner c.explain_input-2.new.output) in
    IfErr-weaker c.explain_input-2.result _ _ (λ e refuses. refuses_last c.question_of-question.result c.args.options.now e _ held holds c.question_of-question.ensures refuses) c.explain_input-2.ensures.err
