use Rattle.std.proofs.Common.{refl, sym, ◌∙◌, arith}
use Rattle.mediator_shares.proofs.JudgeLaws.{alike_step, alike_whose, alike_subs}
use Rattle.mediator_shares.proofs.judges.are_for.Goals as goal

pub judges-preserved : goal.judges-preserved
judges-preserved c =
    alike_step c.args.judges.now c.args.domain c.args.served.now c.judges.place c.index-judges-place.result _ _ c.judges.invariant (omega (arith, c.judges-test.true)) (omega (arith, c.judges-test.true, c.if-judges-served.false)) c.index-judges-place.is refl
    (sym c.is_of.ensures ∙ c.if-not-is_of.false)

pub returns-clause-whose : goal.returns-clause-whose
returns-clause-whose c = λ yes. alike_whose c.args.judges.now c.args.domain c.args.served.now c.judges.place c.judges.invariant (omega (arith, c.judges-test.false)) (omega (arith, c.if-judges-served.false))

pub returns-clause-subs : goal.returns-clause-subs
returns-clause-subs c = λ yes. alike_subs c.args.judges.now c.args.domain c.args.served.now c.judges.place c.judges.invariant (omega (arith, c.judges-test.false)) (omega (arith, c.if-judges-served.false))
