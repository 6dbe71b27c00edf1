use Rattle.mediator_shares.proofs.JudgeLaws.{HaveGiven}
use Rattle.mediator_shares.proofs.judges.take_shares.Given as goal

abbrev pub invariant-judges : goal.invariant-judges
invariant-judges l = HaveGiven l.fn.judges.items l.judges.items l.shares.items l.place
