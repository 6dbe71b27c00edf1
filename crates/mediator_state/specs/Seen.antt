-- What contracts see of an engine beside its history: places, what was drained, limits.
use Rattle.std.specs.Prelude.{◌≡◌, ℕ, Option, Some, None}
use Rattle.std.specs.Option.{option_map}
use Rattle.ipfix_session.specs.Keeping.{at_key}
use Rattle.subscriber_stream.specs.Standing.{queue_size}
use Rattle.mediator_tables.specs.GroupTable.{groups_at}
use Rattle.mediator_tables.specs.SessionTable.{seen}
use Rattle.mediator_tables.specs.declared.subscription.Subscription.{Subscription}
use Rattle.mediator_tables.specs.SubscriptionTable.{at, SameTable}
use Rattle.mediator_state.specs.declared.engine.Engine.{Engine}
use Rattle.mediator_state.specs.Standing.{place}

abbrev pub place_in : Option Subscription → ℕ
place_in None = 0
place_in (Some s) = place s.stream.standing

-- the place up to which a live subscription's parts were handed out
abbrev pub handed_place : {Q : Type 0} → Engine Q → ℕ → ℕ
handed_place e sub = place_in (at e.subscriptions sub)

abbrev pub waiting_in : Option Subscription → ℕ
waiting_in None = 0
waiting_in (Some s) = queue_size s.stream.standing

-- how many records wait for a live subscription
abbrev pub waiting_of : {Q : Type 0} → Engine Q → ℕ → ℕ
waiting_of e sub = waiting_in (at e.subscriptions sub)

-- nothing is handed out or drained, and the limits stay
pub record IsUntouched {Q : Type 0} (old new : Engine Q) : Type 0 where
  pub places : (sub : ℕ) → handed_place new sub ≡ handed_place old sub
  pub drained : new.audit.standing.drained ≡ old.audit.standing.drained
  pub limits : new.limits ≡ old.limits
  pub audit_limit : new.audit.limit ≡ old.audit.limit

-- the same, whatever room is reserved
pub record IsSameEngine {Q : Type 0} (old new : Engine Q) : Type 0 where
  pub in_force : new.in_force ≡ old.in_force
  pub edits : new.edits ≡ old.edits
  pub opened : new.opened ≡ old.opened
  pub begun : new.begun ≡ old.begun
  pub sessions : (session : ℕ) → option_map seen (at_key session new.sessions) ≡ option_map seen (at_key session old.sessions)
  pub subscriptions : SameTable old.subscriptions new.subscriptions
  pub groups : (sub : ℕ) → groups_at new.groups sub ≡ groups_at old.groups sub
  pub audit : new.audit.standing ≡ old.audit.standing
  pub audit_limit : new.audit.limit ≡ old.audit.limit
  pub limits : new.limits ≡ old.limits
