use Rattle.std.proofs.Common.{subst, sym}
use Rattle.mediator_offline.proofs.Receiving.{err_gives}
use Rattle.ipmd.specs.Serving.{IsListenFault}
use Rattle.ipmd.proofs.Running.{new_refused}
use Rattle.ipmd.proofs.runs.make_run.Goals as goal

pub returns-in_err-mediator-clause-err : goal.returns-in_err-mediator-clause-err
returns-in_err-mediator-clause-err g c =
    err_gives c.from_residual.result c.from_residual.ensures
    (λ e is. subst IsListenFault (sym is) (new_refused c.in_err-mediator.field-0.0 c.args.limits c.in_err-mediator.ensures.err c.requires.allowed))
