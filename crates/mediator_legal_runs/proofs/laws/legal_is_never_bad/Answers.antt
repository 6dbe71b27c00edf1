use Rattle.mediator_legal_runs.proofs.RunLaws.{never_bad, runs_never_bad}
use Rattle.mediator_legal_runs.proofs.laws.legal_is_never_bad.Goals as goal

pub returns-clause-any : goal.returns-clause-any
returns-clause-any c = never_bad

pub returns-clause-runs : goal.returns-clause-runs
returns-clause-runs c = runs_never_bad
