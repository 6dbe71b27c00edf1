-- The live subscriptions as contracts see them, and what calls make of one. All of this is this project's own rule.
use Rattle.std.specs.Prelude.{◌≡◌, ◌≢◌, ◌≤◌, ◌<◌, ◌+◌, ◌^◌, ℕ, Bool, true, false, nat_lt, ◌==◌, ◌&&◌, ◌||◌, List, [], ◌∷◌, length, Option, Some, None, IfSome, if◌then◌else◌}
use Rattle.std.specs.Option.{option_map, option_map_or}
use Rattle.std.specs.List.{AllByRecursion, flat_map}
use Rattle.ipfix_template.specs.DataRecord.{DataRecord}
use Rattle.ipfix_session.specs.Keeping.{at_key}
use Rattle.subscriber_stream.specs.declared.limits.StreamLimits.{StreamLimits}
use Rattle.subscriber_stream.specs.Shapes.{shapes_after}
use Rattle.subscriber_stream.specs.Standing.{StreamStanding, KeptStream, HasStreamRoom, queue_size}
use Rattle.subscriber_stream.specs.Calls.{TakesRecords, GivesNext}
use Rattle.mediator_tables.specs.declared.served.Served.{Served}
use Rattle.mediator_tables.specs.declared.share.Share.{Share}
use Rattle.mediator_tables.specs.declared.subscription.Subscription.{Subscription}

-- the live subscriptions under their numbers, and the numbers of those that are served
pub record SubscriptionRows : Type 0 where
  pub live : List (ℕ × Subscription)
  pub served : List ℕ

-- the live subscription with this number
abbrev pub at : SubscriptionRows → ℕ → Option Subscription
at t sub = at_key sub t.live

-- ---- what stays

-- what contracts see of a subscription, whatever room is reserved in its stream
pub record SeenSubscription : Type 0 where
  pub name : List ℕ
  pub is_cut : Bool
  pub standing : StreamStanding
  pub limits : StreamLimits

abbrev pub seen_subscription : Subscription → SeenSubscription
seen_subscription s = record { name = s.name; is_cut = s.is_cut; standing = s.stream.standing; limits = s.stream.limits }

-- the same subscriptions are live
abbrev pub SameLive : List (ℕ × Subscription) → List (ℕ × Subscription) → Type 0
SameLive old new = (sub : ℕ) → option_map seen_subscription (at_key sub new) ≡ option_map seen_subscription (at_key sub old)

-- the same subscriptions are live and served
pub record SameTable (old new : SubscriptionRows) : Type 0 where
  pub each : (sub : ℕ) → option_map seen_subscription (at new sub) ≡ option_map seen_subscription (at old sub)
  pub served : new.served ≡ old.served

-- the subscription has this name
abbrev pub HasName : List ℕ → Subscription → Type 0
HasName name s = s.name ≡ name

-- both are there and related, or none is
abbrev pub Related : {X : Type 0} → (X → X → Type 0) → Option X → Option X → Type 0
Related R None None = Unit {0}
Related R None (Some t) = ⊥
Related R (Some s) None = ⊥
Related R (Some s) (Some t) = R s t

-- ---- those that are served

-- a served subscription as a pair: its number and its name
abbrev pub told : Served → ℕ × List ℕ
told who = (who.sub, who.name.now)

-- the number and the name of a subscription, which is empty where none has the number
abbrev pub told_in : SubscriptionRows → ℕ → ℕ × List ℕ
told_in t sub = (sub, option_map_or (λ s. s.name) (at t sub) [])

-- ---- room

-- the stream's limits leave no room for these records, of which there are some
abbrev pub lacks_room : KeptStream → List DataRecord → Bool
lacks_room k more =
    nat_lt 0 (length more) && (nat_lt k.limits.queue (queue_size k.standing + length more) || nat_lt k.limits.shapes (length (shapes_after k.standing.shapes more)))

-- the same of a share, and false where its subscription isn't live
abbrev pub lacks_room_at : SubscriptionRows → ℕ × List DataRecord → Bool
lacks_room_at t share = option_map_or (λ s. lacks_room s.stream share.1) (at t share.0) false

-- room is reserved for a share, where its subscription is live
abbrev pub HasSpare : List (ℕ × Subscription) → ℕ × List DataRecord → Type 0
HasSpare live share = IfSome (at_key share.0 live) (λ s. length share.1 ≤ s.stream.spare)

-- ---- giving

-- a share as a pair: the subscription with what it is given
abbrev pub shown : Share → ℕ × List DataRecord
shown s = (s.sub, s.given)

-- the records of all shares for this subscription, one share after another
abbrev pub given_to : ℕ → List (ℕ × List DataRecord) → List DataRecord
given_to sub shares = flat_map (λ s. if s.0 == sub then s.1 else []) shares

-- the limits leave room for these records, if there are any, and room is reserved for them
pub record IsReady (k : KeptStream) (more : List DataRecord) : Type 0 where
  pub room : 0 < length more → HasStreamRoom k more
  pub reserved : length more ≤ k.spare
  pub count : k.standing.handed + queue_size k.standing + length more < 2 ^ 64

-- each live subscription is ready for its share, and none has two
abbrev pub AreReadyAmong : List (ℕ × Subscription) → List (ℕ × List DataRecord) → Type 0
AreReadyAmong live [] = Unit {0}
AreReadyAmong live (s ∷ ss) = IfSome (at_key s.0 live) (λ x. IsReady x.stream s.1) × AllByRecursion (λ o. o.0 ≢ s.0) ss × AreReadyAmong live ss

abbrev pub AreReady : SubscriptionRows → List (ℕ × List DataRecord) → Type 0
AreReady t shares = AreReadyAmong t.live shares

-- it takes these records and is else as it was
pub record TakesGiven (more : List DataRecord) (s t : Subscription) : Type 0 where
  pub name : t.name ≡ s.name
  pub is_cut : t.is_cut ≡ s.is_cut
  pub limits : t.stream.limits ≡ s.stream.limits
  pub takes : TakesRecords s.stream.standing more t.stream.standing

-- ---- cutting and pulling

abbrev pub cut_off : Subscription → Subscription
cut_off s = record s { is_cut = true }

-- one pull
pub record PullsOne (now target : ℕ) (answer : Option (List ℕ)) (s t : Subscription) : Type 0 where
  pub name : t.name ≡ s.name
  pub is_cut : t.is_cut ≡ s.is_cut
  pub limits : t.stream.limits ≡ s.stream.limits
  pub gives : GivesNext s.stream.standing now target answer t.stream.standing
