use Rattle.mediator_state.specs.Calls.{StandsForSome}
use Rattle.tests_mediator.proofs.worked.expect_steps.Given as goal

-- after each call the state stands for some history
abbrev pub invariant-loop-place : goal.invariant-loop-place
invariant-loop-place g l = StandsForSome g.C.Chronicle.tells l.state
