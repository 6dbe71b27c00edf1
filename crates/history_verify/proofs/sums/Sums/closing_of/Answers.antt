use Rattle.mediator_history.specs.Counting.{running}
use Rattle.history_verify.proofs.sums.Sums.closing_of.Goals as goal

pub returns-clause-given : goal.returns-clause-given
returns-clause-given c = λ h so. c.in_ok-given.ensures (running c.args.sub h) (so.groups c.args.sub)
