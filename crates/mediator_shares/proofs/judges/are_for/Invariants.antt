use Rattle.mediator_shares.proofs.JudgeLaws.{AreAlike}
use Rattle.mediator_shares.proofs.judges.are_for.Given as goal

abbrev pub invariant-judges : goal.invariant-judges
invariant-judges l = AreAlike l.judges l.domain l.served l.place
