use Rattle.std.proofs.Common.{subst, sym}
use Rattle.mediator_offline.proofs.Receiving.{err_gives}
use Rattle.ipmd_settings.specs.Asked.{asked_service}
use Rattle.ipmd_commands.specs.Failures.{IsFileFault}
use Rattle.ipmd.proofs.Preparing.{no_policy, no_settings}
use Rattle.ipmd.proofs.serve.prepare.Goals as goal

pub returns-in_err-text-clause-err : goal.returns-in_err-text-clause-err
returns-in_err-text-clause-err g c =
    err_gives c.from_residual.result c.from_residual.ensures
    (λ e is. no_settings c.args.path.now e (subst (IsFileFault c.args.path.now) (sym is) c.in_err-text.ensures.err))

pub returns-in_err-policy-clause-err : goal.returns-in_err-policy-clause-err
returns-in_err-policy-clause-err g c =
    err_gives c.from_residual-in_err-policy.result c.from_residual-in_err-policy.ensures
    (λ e is. no_policy c.args.path.now c.as_str.result.now (asked_service c.in_ok-settings.settings) e c.in_ok-settings.ensures.exact
    (subst (λ policy. IsFileFault policy e) c.as_str-2.ensures.value (subst (IsFileFault c.as_str-2.result.now) (sym is) c.in_err-policy.ensures.err)))
