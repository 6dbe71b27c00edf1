use Rattle.history_verify.proofs.SumLaws.{sums_without}
use Rattle.history_verify.proofs.sums.Sums.remove_one.Goals as goal

pub returns-clause-gone : goal.returns-clause-gone
returns-clause-gone c = λ h g so none same. sums_without c.args.self.now _ h g c.args.sub (record { gone = c.remove.ensures.gone; others = c.remove.ensures.others; places = c.remove.ensures.places }) so none same
