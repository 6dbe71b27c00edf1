use Rattle.std.proofs.Common.{subst, sym}
use Rattle.mediator_offline.proofs.Receiving.{err_gives}
use Rattle.ipmd.specs.Replays.{RefusesText}
use Rattle.ipmd.proofs.Replaying.{no_run}
use Rattle.ipmd.proofs.replay.run_text.Goals as goal

pub returns-in_err-run-clause-err : goal.returns-in_err-run-clause-err
returns-in_err-run-clause-err c =
    err_gives c.from_residual-in_err-run.result c.from_residual-in_err-run.ensures
    (λ e is. subst (λ e. RefusesText e c.args.text.now) (sym is) (no_run c.args.text.now c.in_ok-list.list c.in_err-run.field-0.0 c.in_ok-list.ensures.exact c.in_err-run.ensures.err))
