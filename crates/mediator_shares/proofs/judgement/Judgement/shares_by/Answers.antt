use Rattle.std.proofs.Common.{sym, ◌∙◌}
use Rattle.mediator_shares.proofs.judgement.Judgement.shares_by.Goals as goal

pub returns-then-are-clause-shares : goal.returns-then-are-clause-shares
returns-then-are-clause-shares c = λ domain records of. of.by_terms c.args.in_force.now c.args.served.now c.args.most (sym c.deref.ensures ∙ c.are.ensures.0 c.if-are.true)
