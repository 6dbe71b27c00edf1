use Rattle.std.proofs.Common.{arith, subst}
use Rattle.std.proofs.lemmas.List.{take_all}
use Rattle.history_verify.proofs.SumLaws.{AreWithout, ready_without}
use Rattle.history_verify.proofs.sums.Sums.remove.Goals as goal

pub returns-clause-ready : goal.returns-clause-ready
returns-clause-ready c = λ reserved tallies ready none.
    ready_without c.args.self.now c.subs.self c.args.subs.now
    (subst (λ ns. AreWithout c.args.self.now ns c.subs.self) (take_all c.subs.sub-index c.args.subs.now (omega (arith, c.subs-test.false))) c.subs.invariant) reserved tallies ready none
