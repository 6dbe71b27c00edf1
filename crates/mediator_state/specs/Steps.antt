-- What the steps of an engine leave as it was.
use Rattle.std.specs.Prelude.{◌≡◌, ℕ, ◌+◌, ◌≤◌, ◌<◌, ◌^◌, List, length, if◌then◌else◌, ◌==◌}
use Rattle.std.specs.Option.{option_map}
use Rattle.std.specs.Map.{keys_of}
use Rattle.disclosure_audit.specs.Queue.{KeptAudit}
use Rattle.mediator_history.specs.Numbers.{is_in}
use Rattle.flow_aggregate.specs.Running.{nothing_held}
use Rattle.mediator_tables.specs.GroupTable.{held_at}
use Rattle.mediator_tables.specs.SubscriptionTable.{at, cut_off}
use Rattle.mediator_state.specs.declared.engine.Engine.{Engine}

-- the audit has room for so many entries, in memory too
pub record HasAuditRoom (audit : KeptAudit) (more : ℕ) : Type 0 where
  pub room : audit.standing.waiting + more ≤ audit.limit
  pub reserved : more ≤ audit.spare
  pub count : audit.standing.drained + audit.standing.waiting + more < 2 ^ 64

-- policy, clock, counts, sessions and limits stay
pub record KeepsRest {Q : Type 0} (old new : Engine Q) : Type 0 where
  pub in_force : new.in_force ≡ old.in_force
  pub edits : new.edits ≡ old.edits
  pub opened : new.opened ≡ old.opened
  pub begun : new.begun ≡ old.begun
  pub sessions : new.sessions ≡ old.sessions
  pub limits : new.limits ≡ old.limits
  pub audit_limit : new.audit.limit ≡ old.audit.limit
  pub drained : new.audit.standing.drained ≡ old.audit.standing.drained

-- one subscription more is cut, and the audit has an entry more
pub record IsCutOnce {Q : Type 0} (number : ℕ) (old new : Engine Q) : Type 0 where
  pub rest : KeepsRest old new
  pub table : (q : ℕ) → at new.subscriptions q ≡ (if q == number then option_map cut_off (at old.subscriptions q) else at old.subscriptions q)
  pub groups : (q : ℕ) → held_at new.groups q ≡ (if q == number then nothing_held else held_at old.groups q)
  pub places : keys_of new.groups ≡ keys_of old.groups
  pub entries : new.audit.standing.waiting ≡ old.audit.standing.waiting + 1
  pub spare : new.audit.spare + 1 ≡ old.audit.spare

-- these are cut
pub record CutsInARow {Q : Type 0} (numbers : List ℕ) (old new : Engine Q) : Type 0 where
  pub rest : KeepsRest old new
  pub table : (q : ℕ) → at new.subscriptions q ≡ (if is_in q numbers then option_map cut_off (at old.subscriptions q) else at old.subscriptions q)
  pub groups : (q : ℕ) → held_at new.groups q ≡ (if is_in q numbers then nothing_held else held_at old.groups q)
  pub places : keys_of new.groups ≡ keys_of old.groups
  pub entries : new.audit.standing.waiting ≡ old.audit.standing.waiting + length numbers
  pub spare : new.audit.spare + length numbers ≡ old.audit.spare
