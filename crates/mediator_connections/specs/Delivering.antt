-- What a delivery writes, and where it stops.
use Rattle.std.specs.Prelude.{◌≡◌, ◌⊎◌, ℕ, ◌+◌, ◌≤◌, Bool, List, ◌++◌, length, Option}
use Rattle.std.specs.List.{flat_map, AllByRecursion}
use Rattle.std.specs.Io.KnownBytes.{Appends}
use Rattle.octet_io.specs.Moments.{Writer}
use Rattle.octet_io.specs.Written.{WritesFront}
use Rattle.event_journal.specs.declared.entry.Entry.TheVariants.{Unsubscribe}
use Rattle.shared_mediator.specs.declared.kept.KeptEntry.{KeptEntry}
use Rattle.shared_mediator.specs.declared.handed.Handed.{Handed}
use Rattle.shared_mediator.specs.Locked.{Delivering}
use Rattle.shared_mediator.specs.Handles.{IsBuilt, KeepsEntry, MayRefusePull}
use Rattle.mediator_connections.specs.declared.delivery.TheConstants.{MOST_AT_ONCE}
use Rattle.mediator_connections.specs.declared.fault.Fault.{Fault}
use Rattle.mediator_connections.specs.declared.fault.Fault.TheVariants.{Write, Mediator}

-- the octets of messages, one directly after another
abbrev pub handed_octets : List Handed → List ℕ
handed_octets handed = flat_map (λ h. h.message) handed

-- the message is built for an Export Time that the clock may show, and for the target
pub record IsDue (Shows : ℕ → Type 0) (target : ℕ) (h : Handed) : Type 0 where
  pub now : ℕ
  pub shown : Shows now
  pub built : IsBuilt now target h

-- these messages were pulled: the handle keeps them behind those that it had
pub record PullsSome (Shows : ℕ → Type 0) (target : ℕ) (old new : Delivering) (messages : List Handed) : Type 0 where
  pub sub : new.sub ≡ old.sub
  pub kept : new.kept ≡ old.kept ++ messages
  pub due : AllByRecursion (IsDue Shows target) messages

-- messages were pulled, and all of them were written and their octets counted
pub record DeliversSome (Shows : ℕ → Type 0) (target sent : ℕ) (old new : Delivering) (writer : Writer) : Type 0 where
  pub messages : List Handed
  pub pulls : PullsSome Shows target old new messages
  pub written : Appends writer.held writer.holds (handed_octets messages)
  pub counted : sent ≡ length (handed_octets messages)

-- messages were pulled, and the first so many octets of them were written, which end inside the last ones, of which at most so many are
-- pulled at once; then the writer failed
pub record StopsInsideMessages (Shows : ℕ → Type 0) (target sent : ℕ) (old new : Delivering) (writer : Writer) (has_failed : Bool) : Type 0 where
  pub messages : List Handed
  pub last : List Handed
  pub few : length last ≤ MOST_AT_ONCE
  pub pulls : PullsSome Shows target old new (messages ++ last)
  pub written : WritesFront writer.held writer.holds (handed_octets (messages ++ last)) sent has_failed
  pub whole : length (handed_octets messages) ≤ sent

-- why it stops, and what was written then: at a refusal, all that was pulled
abbrev pub FailsToDeliver : Fault → (ℕ → Type 0) → ℕ → Delivering → Delivering → Writer → Bool → Type 0
FailsToDeliver (Write sent) Shows target old new writer has_failed = StopsInsideMessages Shows target sent old new writer has_failed
FailsToDeliver (Mediator why) Shows target old new writer has_failed = ((sent : ℕ) × DeliversSome Shows target sent old new writer) × MayRefusePull why
FailsToDeliver _ Shows target old new writer has_failed = ⊥

-- what an administrator's handle keeps then: where the writer failed, the end of the subscription, unless that is refused
abbrev pub EndsOnWrite : Fault → ℕ → List KeptEntry → List KeptEntry → Type 0
EndsOnWrite (Write sent) sub old new = KeepsEntry old (Unsubscribe sub) new ⊎ (new ≡ old)
EndsOnWrite _ sub old new = new ≡ old

-- ---- what no public clause cites

-- the octets were written behind so many, and counted
pub record Sends (octets : List ℕ) (sent n : ℕ) (held holds : Option (List ℕ)) : Type 0 where
  pub written : Appends held holds octets
  pub counted : n ≡ sent + length octets

-- the writer failed inside the octets, behind so many
pub record StopsSending (e : Fault) (octets : List ℕ) (sent : ℕ) (held holds : Option (List ℕ)) (has_failed : Bool) : Type 0 where
  pub front : ℕ
  pub is : e ≡ Write (sent + front)
  pub inside : WritesFront held holds octets front has_failed
