use Rattle.std.proofs.Common.{subst, sym}
use Rattle.octet_io.specs.Device.{device_inner}
use Rattle.ipmd_commands.specs.Failures.{IsFileFault}
use Rattle.ipmd_commands.proofs.Lines.{kept}
use Rattle.ipmd_verify.proofs.Refusing.{err_gives, unopened}
use Rattle.ipmd_verify.proofs.verifying.verify.Goals as goal

pub returns-in_err-file-clause-err : goal.returns-in_err-file-clause-err
returns-in_err-file-clause-err g c =
    let held = g.O.Write.contents (device_inner c.args.output.now) in
    err_gives c.from_residual.result c.from_residual.ensures
    (λ e is. unopened c.args.options.now e held held (subst (IsFileFault c.args.options.now.journal.now) (sym is) c.in_err-file.ensures.err) (kept held))

pub returns-in_err-input-clause-err : goal.returns-in_err-input-clause-err
returns-in_err-input-clause-err g c =
    let held = g.O.Write.contents (device_inner c.args.output.now) in
    err_gives c.from_residual-in_err-input.result c.from_residual-in_err-input.ensures
    (λ e is. unopened c.args.options.now e held held (subst (IsFileFault c.args.options.now.journal.now) (sym is) c.in_err-input.ensures.err) (kept held))
