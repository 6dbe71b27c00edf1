use Rattle.std.proofs.Common.{arith}
use Rattle.mediator_state.proofs.EntrySteps.{few_begun}
use Rattle.mediator_state.proofs.engine.Engine.next_subscription.Goals as goal

pub overflow_add-number : goal.overflow_add-number
overflow_add-number g c = omega (arith, few_begun c.args.self.now c.args.position c.requires.somewhere)
