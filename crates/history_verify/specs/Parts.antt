-- The histories that the parts of a replay stand for: its sessions, its subscriptions, its running groups.
use Rattle.std.specs.Prelude.{◌≡◌, ◌≢◌, ◌⊎◌, ℕ, ◌+◌, ◌<◌, ◌≤◌, ◌^◌, true, false, List, [], ◌∷◌, length, map, filter, slice_get, slice_set, Option, Some, None, IfSome, if◌then◌else◌}
use Rattle.std.specs.Option.{option_map, option_map_or}
use Rattle.std.specs.List.{AllByRecursion, flat_map}
use Rattle.std.specs.Map.{keys_of}
use Rattle.std.specs.Ordering.{nat_cmp}
use Rattle.std.specs.BTreeMap.{get_by_text}
use Rattle.std.specs.BTreeSet.{contains}
use Rattle.ipfix_template.specs.DataRecord.{DataRecord}
use Rattle.ipfix_session.specs.Keeping.{at_key}
use Rattle.ipfix_session.specs.Standing.{StandsFor}
use Rattle.ipfix_session.specs.ReadAhead.{Ahead, HasRoomFor}
use Rattle.flow_aggregate.specs.Running.{nothing_held, SumsStand as StandsForRecords}
use Rattle.event_journal.specs.declared.entry.Entry.{Entry}
use Rattle.mediator_history.specs.Sessions.{is_open, messages_of, sessions_opened}
use Rattle.mediator_history.specs.Subscriptions.{name_of, is_live, is_served, subscribed_in, subscriptions_begun, served}
use Rattle.mediator_history.specs.Counting.{counted, running}
use Rattle.mediator_history.specs.Disclosed.{disclosed}
use Rattle.mediator_tables.specs.SubscriptionTable.{given_to}
use Rattle.mediator_tables.specs.declared.open_session.OpenSession.{OpenSession}
use Rattle.mediator_tables.specs.Sessions.{IsSession, IsUnopened}
use Rattle.mediator_tables.specs.SessionTable.{seen}
use Rattle.mediator_tables.specs.GroupTable.{held_at, groups_at}
use Rattle.history_verify.specs.declared.count.SubscriptionCount.{SubscriptionCount}
use Rattle.history_verify.specs.declared.exporters.Exporters.{Exporters}
use Rattle.history_verify.specs.declared.subscribers.Subscribers.{Subscribers}
use Rattle.history_verify.specs.declared.sums.Sums.{Sums}
use Rattle.history_verify.specs.declared.noted.Noted.{Noted}
use Rattle.disclosure_audit.specs.declared.entry.AuditEntry.{AuditEntry}
use Rattle.std.specs.Vec.{vec_capacity}
use Rattle.history_verify.specs.Counts.{counts_of}

-- ---- sessions

pub record AreExporters (e : Exporters) (h : List Entry) : Type 0 where
  pub opened : e.opened ≡ sessions_opened h
  pub sessions : (session : ℕ) → IsSession h session (at_key session e.sessions)
  pub unopened : (session : ℕ) → sessions_opened h < session → IsUnopened h session

-- the same, whatever room is made
pub record SameExporters (old new : Exporters) : Type 0 where
  pub opened : new.opened ≡ old.opened
  pub sessions : (session : ℕ) → option_map seen (at_key session new.sessions) ≡ option_map seen (at_key session old.sessions)

-- the session is open, and this is the number of its next message
abbrev pub IsTurn : List Entry → ℕ → ℕ → Type 0
IsTurn h session number = (is_open session h ≡ true) × (number ≡ length (messages_of session h))

pub record IsTurnIn (e : Exporters) (session number : ℕ) (o : OpenSession) : Type 0 where
  pub is : at_key session e.sessions ≡ Some o
  pub turn : number ≡ o.accepted

abbrev pub HasRoomToKeep : Exporters → ℕ → Ahead → Type 0
HasRoomToKeep e session reading = IfSome (at_key session e.sessions) (λ o. HasRoomFor o.session reading)

-- ---- subscriptions

-- these are the numbers from n on, in their order
abbrev pub AreNumbersFrom : ℕ → List ℕ → Type 0
AreNumbersFrom n [] = Unit {0}
AreNumbersFrom n (x ∷ xs) = (x ≡ n) × AreNumbersFrom (n + 1) xs

-- the number of the live subscription under a name
abbrev pub live_number : Subscribers → List ℕ → Option ℕ
live_number t name = get_by_text t.live name

-- a subscription that never began
pub record NeverBegan (h : List Entry) (sub : ℕ) : Type 0 where
  pub gone : is_live sub h ≡ false
  pub nameless : name_of sub h ≡ []
  pub unserved : is_served sub h ≡ false
  pub nothing : disclosed sub h ≡ []
  pub uncounted : counted sub h ≡ []

pub record AreSubscribers (t : Subscribers) (h : List Entry) : Type 0 where
  pub begun : t.begun.items ≡ counts_of h
  pub numbers : AreNumbersFrom 1 (flat_map subscribed_in h)
  pub named : (name : List ℕ) (sub : ℕ) → live_number t name ≡ Some sub → (is_live sub h ≡ true) × (name_of sub h ≡ name)
  pub live : (sub : ℕ) → is_live sub h ≡ true → live_number t (name_of sub h) ≡ Some sub
  pub served_are : t.served.keys ≡ served h
  pub unbegun : (sub : ℕ) → (sub ≡ 0) ⊎ (subscriptions_begun h < sub) → NeverBegan h sub

pub record SameSubscribers (old new : Subscribers) : Type 0 where
  pub begun : new.begun.items ≡ old.begun.items
  pub names : (name : List ℕ) → live_number new name ≡ live_number old name
  pub served_are : new.served.keys ≡ old.served.keys

-- ---- what shares give

-- the count, with so many records more
abbrev pub with_more : ℕ → SubscriptionCount → SubscriptionCount
with_more more c = record { sub = c.sub; name = c.name; disclosed = c.disclosed + more }

-- the counts, with so many records more in the one at a place, where there is one
abbrev pub more_at : ℕ → ℕ → List SubscriptionCount → List SubscriptionCount
more_at place more counts = option_map_or (λ c. slice_set counts place (with_more more c)) (slice_get counts place) counts

-- the count, with what shares give to its subscription
abbrev pub with_given : List (ℕ × List DataRecord) → SubscriptionCount → SubscriptionCount
with_given shares c = with_more (length (given_to c.sub shares)) c

-- the shares of subscriptions that are served
abbrev pub served_shares : Subscribers → List (ℕ × List DataRecord) → List (ℕ × List DataRecord)
served_shares t shares = filter (λ s. contains nat_cmp t.served s.0) shares

-- the counts are those of the numbers from 1 on, and none comes to its end by what shares give
pub record MayCount (t : Subscribers) (shares : List (ℕ × List DataRecord)) : Type 0 where
  pub numbers : AreNumbersFrom 1 (map (λ c. c.sub) t.begun.items)
  pub room : AllByRecursion (λ c. c.disclosed + length (given_to c.sub shares) < 2 ^ 64) t.begun.items

-- what shares give is counted, and all else is the same
pub record HasCounted (shares : List (ℕ × List DataRecord)) (old new : Subscribers) : Type 0 where
  pub begun : new.begun.items ≡ map (with_given shares) old.begun.items
  pub live : new.live ≡ old.live
  pub served_are : new.served ≡ old.served

-- ---- what counts in aggregates

pub record AreSums (s : Sums) (h : List Entry) : Type 0 where
  pub groups : (sub : ℕ) → StandsForRecords (groups_at s.groups sub) (running sub h)

pub record SameSums (old new : Sums) : Type 0 where
  pub groups : (sub : ℕ) → groups_at new.groups sub ≡ groups_at old.groups sub

-- nothing is held for a subscription, and all else is as before, each at its place
pub record IsWithout (old : Sums) (sub : ℕ) (new : Sums) : Type 0 where
  pub gone : held_at new.groups sub ≡ nothing_held
  pub others : (q : ℕ) → q ≢ sub → held_at new.groups q ≡ held_at old.groups q
  pub places : keys_of new.groups ≡ keys_of old.groups

-- ---- what the audit names

-- these are noted, where they are wanted
abbrev pub AreNoted : Noted → List AuditEntry → Type 0
AreNoted n list = n.entries.items ≡ (if n.wanted then list else [])

-- there is room for so many more, where they are wanted
abbrev pub HasRoomToNote : Noted → ℕ → Type 0
HasRoomToNote n more = n.wanted ≡ true → length n.entries.items + more ≤ vec_capacity n.entries
