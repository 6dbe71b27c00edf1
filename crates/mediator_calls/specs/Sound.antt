-- What every mediator keeps.
use Rattle.std.specs.Prelude.{◌≡◌, ◌≤◌, ℕ, true, length}
use Rattle.subscriber_stream.specs.Parts.{parts}
use Rattle.stream_meaning.specs.Served.{AreStreamable}
use Rattle.mediator_history.specs.Disclosed.{disclosed}
use Rattle.mediator_history.specs.Auditing.{audit_list}
use Rattle.mediator_state.specs.Standing.{AreNumbered}
use Rattle.mediator_calls.specs.Mediation.{Mediation, place_at}
use Rattle.mediator_calls.specs.Held.{IsHeld}

-- what is disclosed can be streamed, no place is past the end of what is disclosed, no more was drained than was noted, no number of
-- a session or a subscription comes again, and no more is held than the limits allow
pub record IsSoundMediation (m : Mediation) : Type 0 where
  pub streamable : (sub : ℕ) → AreStreamable (disclosed sub m.history)
  pub places : (sub : ℕ) → place_at m sub ≤ length (parts (disclosed sub m.history))
  pub drained : m.drained ≤ length (audit_list m.history)
  pub numbered : AreNumbered m.history
  pub held : IsHeld m
