use Rattle.std.proofs.Common.{ap, ◌∙◌}
use Rattle.mediator_history.proofs.EntryLaws.{served_is_live}
use Rattle.mediator_offline.specs.declared.job.Fault.TheVariants.{Mediator}
use Rattle.mediator_offline.proofs.Receiving.{err_gives, pull_memory}
use Rattle.mediator_offline.proofs.run.OfflineRun.pull.Goals as goal

pub returns-in_err-pull_to-clause-err : goal.returns-in_err-pull_to-clause-err
returns-in_err-pull_to-clause-err g c =
    err_gives c.from_residual.result c.from_residual.ensures
    (λ e is. is ∙ ap Mediator (pull_memory c.in_err-pull_to.field-0.0 c.requires.serving.history (served_is_live 1 c.requires.serving.history c.requires.serving.stands.serving) (c.in_err-pull_to.ensures.err c.requires.serving.history c.requires.serving.stands.state)))
