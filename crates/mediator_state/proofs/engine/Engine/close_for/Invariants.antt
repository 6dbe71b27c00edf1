use Rattle.mediator_state.proofs.AdvanceJudging.{IsParting}
use Rattle.mediator_state.proofs.engine.Engine.close_for.Given as goal

abbrev pub invariant-served : goal.invariant-served
invariant-served g l = IsParting l.self l.t l.served l.cuts.items l.shares.items l.who-index
