use Rattle.std.proofs.Common.{take}
use Rattle.history_verify.proofs.SumLaws.{AreWithout}
use Rattle.history_verify.proofs.sums.Sums.remove.Given as goal

abbrev pub invariant-subs : goal.invariant-subs
invariant-subs l = AreWithout l.fn.self (take l.sub-index l.subs) l.self
