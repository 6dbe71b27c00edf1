use Rattle.mediator_legal_runs.proofs.RunLaws.{runs_are_legal, journals_are_legal}
use Rattle.mediator_legal_runs.proofs.laws.runs_are_legal.Goals as goal

pub returns-clause-runs : goal.returns-clause-runs
returns-clause-runs c = runs_are_legal

pub returns-clause-journals : goal.returns-clause-journals
returns-clause-journals c = journals_are_legal
