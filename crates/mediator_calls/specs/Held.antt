-- What every mediator holds: no more than its limits.
use Rattle.std.specs.Prelude.{◌≡◌, ◌≤◌, ◌*◌, ℕ, true, length}
use Rattle.subscriber_stream.specs.Shapes.{shapes_of}
use Rattle.mediator_history.specs.Subscriptions.{is_live}
use Rattle.mediator_history.specs.Disclosed.{disclosed}
use Rattle.mediator_history.specs.Auditing.{audit_list}
use Rattle.mediator_calls.specs.Mediation.{Mediation, waiting_at, noted_at}

-- what waits for a live subscription, its shapes, and what waits to be drained are within the limits; and all that was ever disclosed
-- to one, or noted, is within the same limit for each entry of the journal
pub record IsHeld (m : Mediation) : Type 0 where
  pub queued : (sub : ℕ) → is_live sub m.history ≡ true → waiting_at m sub ≤ m.limits.queue
  pub shapes : (sub : ℕ) → length (shapes_of (disclosed sub m.history)) ≤ m.limits.shapes
  pub noted : length (noted_at m) ≤ m.limits.audit
  pub listed : (sub : ℕ) → length (disclosed sub m.history) ≤ m.limits.queue * length m.history
  pub audited : length (audit_list m.history) ≤ m.limits.audit * length m.history
