use Rattle.std.proofs.Common.{inl, subst, sym}
use Rattle.mediator_offline.proofs.Receiving.{err_gives}
use Rattle.ipmd_commands.specs.Failures.{IsFileFault}
use Rattle.ipmd_commands.proofs.Lines.{kept}
use Rattle.ipmd_commands.proofs.filtering.filter_to_file.Goals as goal

pub returns-in_err-file-clause-err : goal.returns-in_err-file-clause-err
returns-in_err-file-clause-err g c =
    err_gives c.from_residual.result c.from_residual.ensures (λ e is. inl (subst (IsFileFault c.args.path.now) (sym is) c.in_err-file.ensures.err, kept _))

pub returns-in_err-buffer-clause-err : goal.returns-in_err-buffer-clause-err
returns-in_err-buffer-clause-err g c =
    err_gives c.from_residual-in_err-buffer.result c.from_residual-in_err-buffer.ensures (λ e is. inl (subst (IsFileFault c.args.path.now) (sym is) c.in_err-buffer.ensures.err, kept _))
