use Rattle.std.proofs.Common.{◌∙◌, subst, sym}
use Rattle.std.specs.Io.KnownBytes.{Appends}
use Rattle.octet_io.specs.Device.{device_inner}
use Rattle.mediator_offline.proofs.Receiving.{err_gives}
use Rattle.ipmd.specs.Serving.{RefusesToTell, run_of, run_line}
use Rattle.ipmd.proofs.Running.{told_all, told_nothing}
use Rattle.ipmd.proofs.runs.end_run.Goals as goal

pub returns-in_err-line-clause-err : goal.returns-in_err-line-clause-err
returns-in_err-line-clause-err g c =
    let held = g.O.Write.contents (device_inner c.args.output.now) in
    err_gives c.from_residual.result c.from_residual.ensures
    (λ e is. subst (λ x. RefusesToTell x (run_of c.args.ended) held held) (sym is) (told_nothing (run_of c.args.ended) held))

pub returns-in_err-kept-clause-err : goal.returns-in_err-kept-clause-err
returns-in_err-kept-clause-err g c =
    let held = g.O.Write.contents (device_inner c.args.output.now) in
    let holds = g.O.Write.contents (device_inner c.write_text.new.output) in
    let told : Appends held holds (run_line (run_of c.args.ended)) = subst (Appends held holds) (c.as_str.ensures.value ∙ c.in_ok-line.ensures) c.in_ok-write_text.ensures.ok in
    err_gives c.from_residual-in_err-kept.result c.from_residual-in_err-kept.ensures
    (λ e is. subst (λ x. RefusesToTell x (run_of c.args.ended) held holds) (sym is) (told_all c.in_err-kept.field-0.0 (run_of c.args.ended) held holds c.in_err-kept.ensures.err told))
