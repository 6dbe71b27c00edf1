use Rattle.std.proofs.Common.{sym, subst}
use Rattle.history_verify.specs.declared.fault.Fault.{Fault}
use Rattle.history_verify.specs.Standing.{NamesWaiting}
use Rattle.history_verify.proofs.FeedLaws.{err_gives, names_end}
use Rattle.history_verify.proofs.verifier.Verifier.finish.Goals as goal

pub returns-in_err-none_wait-clause-err : goal.returns-in_err-none_wait-clause-err
returns-in_err-none_wait-clause-err c =
    err_gives c.from_residual.result c.from_residual.ensures
    (λ e is h fed. names_end c.args.self h e fed (subst (λ (w : Fault). NamesWaiting w c.args.self) (sym is) c.in_err-none_wait.ensures.err))
