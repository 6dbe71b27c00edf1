use Rattle.history_verify.proofs.SumLaws.{sums_new}
use Rattle.history_verify.proofs.sums.Sums.new.Goals as goal

pub returns : goal.returns
returns c = sums_new _ c.new.ensures
