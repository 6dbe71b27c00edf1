use Rattle.mediator_offline.proofs.UnclosedLaws.{no_advance, disclosed_passes, none_late}
use Rattle.mediator_offline.proofs.laws.nothing_closes.Goals as goal

pub returns-clause-clock : goal.returns-clause-clock
returns-clause-clock c = no_advance

pub returns-clause-passing : goal.returns-clause-passing
returns-clause-passing c = disclosed_passes

pub returns-clause-early : goal.returns-clause-early
returns-clause-early c = none_late
