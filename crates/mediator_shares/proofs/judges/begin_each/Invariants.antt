use Rattle.std.specs.Arc.{arc_value}
use Rattle.mediator_shares.proofs.JudgeLaws.{HaveBegun}
use Rattle.mediator_shares.proofs.judges.begin_each.Given as goal

abbrev pub invariant-judges : goal.invariant-judges
invariant-judges l = HaveBegun (arc_value l.template) l.fn.judges.items l.judges.items l.place
