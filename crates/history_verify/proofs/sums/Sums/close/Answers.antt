use Rattle.history_verify.proofs.SumLaws.{sums_close}
use Rattle.history_verify.proofs.sums.Sums.close.Goals as goal

pub returns : goal.returns
returns c = λ h g so same. sums_close c.args.self.now _ h g c.args.t c.close.ensures.stays so same
