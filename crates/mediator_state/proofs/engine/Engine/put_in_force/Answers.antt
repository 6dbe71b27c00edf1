use Rattle.std.proofs.Common.{refl, arith}
use Rattle.mediator_state.proofs.EntrySteps.{stands-edit, few_edits}
use Rattle.mediator_state.proofs.engine.Engine.put_in_force.Goals as goal

pub overflow_add-self : goal.overflow_add-self
overflow_add-self g c = omega (arith, few_edits c.args.self.now c.args.position c.requires.somewhere)

pub returns-clause-stands : goal.returns-clause-stands
returns-clause-stands g c = λ h text so spelled. stands-edit c.args.self.now _ h text c.args.in_force.policy so spelled refl c.requires.same_clock refl refl refl refl refl refl refl refl
