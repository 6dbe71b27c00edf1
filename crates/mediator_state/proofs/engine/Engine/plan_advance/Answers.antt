use Rattle.mediator_state.proofs.AdvanceJudging.{plan_judged}
use Rattle.mediator_state.proofs.engine.Engine.plan_advance.Goals as goal

pub returns : goal.returns
returns g c =
    plan_judged c.args.self.now c.args.t c.in_ok-served.served.items c.deref.result.now c.in_ok-closing.closing.cuts.items c.in_ok-closing.closing.shares.items c.deref-2.result.now
    c.in_ok-served.ensures c.deref.ensures.value c.in_ok-closing.ensures c.deref-2.ensures.value c.shares_for_proof.ensures
