use Rattle.std.proofs.Common.{subst, sym}
use Rattle.mediator_offline.proofs.Receiving.{err_gives}
use Rattle.ipmd_run_journals.specs.Keeping.{IsSomeFileFault}
use Rattle.ipmd.proofs.Running.{kept_somewhere}
use Rattle.ipmd.proofs.runs.keep.Goals as goal

pub returns-in_err-name : goal.returns-in_err-name
returns-in_err-name g c = record {
  err = err_gives c.from_residual.result c.from_residual.ensures (λ e is. subst IsSomeFileFault (sym is) (kept_somewhere _ _ c.in_err-name.field-0.0 c.in_err-name.ensures.err));
}
