use Rattle.mediator_state.proofs.EntrySteps.{none_named, if_none}
use Rattle.mediator_state.proofs.engine.Engine.named.Goals as goal

pub returns-clause-none : goal.returns-clause-none
returns-clause-none g c =
    let s = c.args.self.now in
    if_none c.named.result (λ free h so sub. none_named h s.limits sub c.args.name.now _ (so.subscriptions sub) (free sub)) c.named.ensures.none
