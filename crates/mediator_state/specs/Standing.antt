-- The histories that an engine stands for.
use Rattle.std.specs.Prelude.{◌≡◌, ℕ, ◌+◌, ◌*◌, ◌≤◌, ◌<◌, true, false, not, List, [], ◌++◌, length, Option, Some, None}
use Rattle.std.specs.List.{flat_map, AllByRecursion}
use Rattle.ipfix_session.specs.Keeping.{at_key}
use Rattle.ipfix_session.specs.Standing.{StandsFor}
use Rattle.subscriber_stream.specs.declared.limits.StreamLimits.{StreamLimits}
use Rattle.subscriber_stream.specs.declared.limits.TheConstants.{MOST_QUEUE, MOST_SHAPES}
use Rattle.subscriber_stream.specs.Standing.{StreamStanding, StandsAt}
use Rattle.stream_meaning.specs.Served.{AreStreamable}
use Rattle.flow_aggregate.specs.Running.{SumsStand as StandsForRecords}
use Rattle.disclosure_audit.specs.declared.audit.TheConstants.{MOST_ENTRIES as MOST_AUDITED}
use Rattle.disclosure_audit.specs.Queue.{StandsIn}
use Rattle.event_journal.specs.declared.entry.Entry.{Entry}
use Rattle.mediator_history.specs.Numbers.{AreDistinct}
use Rattle.mediator_history.specs.Sessions.{is_open, messages_of, sessions_opened}
use Rattle.mediator_history.specs.Subscriptions.{policy_in_force, edits_made, name_of, is_live, is_served, subscribed_in, subscriptions_begun, served}
use Rattle.mediator_history.specs.Counting.{clock_of, counted, running}
use Rattle.mediator_history.specs.Disclosed.{disclosed}
use Rattle.mediator_history.specs.Auditing.{audit_list}
use Rattle.mediator_tables.specs.Sessions.{IsSession, IsUnopened}
use Rattle.mediator_tables.specs.GroupTable.{groups_at}
use Rattle.mediator_tables.specs.declared.open_session.OpenSession.{OpenSession}
use Rattle.mediator_tables.specs.declared.subscription.Subscription.{Subscription}
use Rattle.mediator_tables.specs.SubscriptionTable.{at}
use Rattle.mediator_state.specs.declared.engine.Engine.{Engine}
use Rattle.mediator_state.specs.Ascending.{Ascend}

-- the place up to which a stream's parts were handed out
abbrev pub place : StreamStanding → ℕ
place s = s.handed + s.announced

-- the subscription is live, and its stream stands in what is disclosed to it
pub record IsSubscription (h : List Entry) (limits : StreamLimits) (sub : ℕ) (s : Subscription) : Type 0 where
  pub live : is_live sub h ≡ true
  pub name : s.name ≡ name_of sub h
  pub cut : s.is_cut ≡ not (is_served sub h)
  pub stream : StandsAt s.stream.standing (disclosed sub h) (place s.stream.standing)
  pub limits_are : s.stream.limits ≡ limits

-- so it is; or the subscription isn't live
abbrev pub IsLiveAs : List Entry → StreamLimits → ℕ → Option Subscription → Type 0
IsLiveAs h limits sub None = is_live sub h ≡ false
IsLiveAs h limits sub (Some s) = IsSubscription h limits sub s

-- a subscription that never began
pub record IsUnbegun (h : List Entry) (sub : ℕ) : Type 0 where
  pub gone : is_live sub h ≡ false
  pub unserved : is_served sub h ≡ false
  pub nothing : disclosed sub h ≡ []
  pub uncounted : counted sub h ≡ []

-- numbers are those from 1 on, none comes again, and those of subscriptions ascend
pub record AreNumbered (h : List Entry) : Type 0 where
  pub sessions : (session : ℕ) → sessions_opened h < session → IsUnopened h session
  pub subscriptions : (sub : ℕ) → subscriptions_begun h < sub → IsUnbegun h sub
  pub distinct : AreDistinct (flat_map subscribed_in h)
  pub within : AllByRecursion (λ sub. sub ≤ subscriptions_begun h) (flat_map subscribed_in h)
  pub ascending : Ascend (flat_map subscribed_in h)

-- no count comes near its end, and what is disclosed can be streamed
pub record IsSmall (h : List Entry) : Type 0 where
  pub listed : (sub : ℕ) → length (disclosed sub h) ≤ MOST_QUEUE * length h
  pub audited : length (audit_list h) ≤ MOST_AUDITED * length h
  pub streamable : (sub : ℕ) → AreStreamable (disclosed sub h)

-- the limits are ones that a mediator may have
pub record AreEngineLimits (limits : StreamLimits) : Type 0 where
  pub queue : limits.queue ≤ MOST_QUEUE
  pub shapes : limits.shapes ≤ MOST_SHAPES

pub record Stands {Q : Type 0} (e : Engine Q) (h : List Entry) : Type 0 where
  pub policy : e.in_force.policy ≡ policy_in_force h
  pub clock : e.in_force.clock ≡ clock_of h
  pub edits : e.edits ≡ edits_made h
  pub opened : e.opened ≡ sessions_opened h
  pub begun : e.begun ≡ subscriptions_begun h
  pub sessions : (session : ℕ) → IsSession h session (at_key session e.sessions)
  pub subscriptions : (sub : ℕ) → IsLiveAs h e.limits sub (at e.subscriptions sub)
  pub served_are : e.subscriptions.served ≡ served h
  pub groups : (sub : ℕ) → StandsForRecords (groups_at e.groups sub) (running sub h)
  pub audit : StandsIn e.audit.standing (audit_list h)
  pub limits : AreEngineLimits e.limits
  pub numbered : AreNumbered h
  pub small : IsSmall h

-- so it does for some history of so many entries
pub record StandsSomewhere {Q : Type 0} (e : Engine Q) (count : ℕ) : Type 0 where
  pub history : List Entry
  pub stands : Stands e history
  pub counted : length history ≡ count

-- so it does for some history
pub record HasHistory {Q : Type 0} (e : Engine Q) : Type 0 where
  pub history : List Entry
  pub stands : Stands e history

-- the new engine stands for each history that the old one stood for, with these entries behind it
abbrev pub GoesOnWith : {Q : Type 0} → List Entry → Engine Q → Engine Q → Type 0
GoesOnWith more old new = (h : List Entry) → Stands old h → Stands new (h ++ more)
