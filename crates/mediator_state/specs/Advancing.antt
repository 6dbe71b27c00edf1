-- What an advance of the clock does, and what its steps want.
use Rattle.std.specs.Prelude.{◌≡◌, ℕ, ◌≤◌, List, [], length, map, filter, not}
use Rattle.std.specs.List.{AllByRecursion}
use Rattle.ipfix_template.specs.DataRecord.{DataRecord}
use Rattle.event_journal.specs.declared.limits.TheConstants.{MOST_ENTRIES}
use Rattle.event_journal.specs.declared.entry.Entry.{Entry}
use Rattle.event_journal.specs.declared.entry.Entry.TheVariants.{Advance}
use Rattle.mediator_history.specs.Subscriptions.{served}
use Rattle.mediator_history.specs.Disclosed.{given_at}
use Rattle.mediator_tables.specs.SubscriptionTable.{shown}
use Rattle.mediator_tables.specs.SubscriptionTable.{SubscriptionRows, lacks_room_at, HasSpare, AreReady}
use Rattle.mediator_state.specs.declared.engine.Engine.{Engine}
use Rattle.mediator_state.specs.declared.closing.Closing.{Closing}
use Rattle.mediator_state.specs.Standing.{Stands}
use Rattle.mediator_state.specs.Planning.{share_at, HasRoomIn, AreStreamed, IsJudged}
use Rattle.mediator_state.specs.Accepting.{HasAuditFor}

-- what an advance to t closes for one that is served
abbrev pub closing_share : List Entry → ℕ → ℕ × List ℕ → ℕ × List DataRecord
closing_share h t who = (who.0, given_at who.0 h (Advance t))

-- shares are parted into the numbers of those for which there is no room, and the others
pub record AreParted (t : SubscriptionRows) (all : List (ℕ × List DataRecord)) (cuts : List ℕ) (left : List (ℕ × List DataRecord)) : Type 0 where
  pub cutting : cuts ≡ map (λ s. s.0) (filter (lacks_room_at t) all)
  pub leaving : left ≡ filter (λ s. not (lacks_room_at t s)) all

-- room was made for what an advance does
pub record HasRoomToClose {Q : Type 0} (e : Engine Q) (c : Closing) : Type 0 where
  pub audit : HasAuditFor e.audit (length c.cuts.items) (length c.cuts.items)
  pub streams : AllByRecursion (HasSpare e.subscriptions.live) (map shown c.shares.items)

-- this is what an advance to t does behind some history of so many entries
pub record IsClosingFor {Q : Type 0} (e : Engine Q) (position t : ℕ) (c : Closing) : Type 0 where
  pub history : List Entry
  pub stands : Stands e history
  pub counted : length history ≡ position
  pub short : position ≤ MOST_ENTRIES
  pub judged : IsJudged e history (Advance t) c.cuts.items (map shown c.shares.items) []

-- the streams have room for these shares
pub record IsReadyToClose {Q : Type 0} (e : Engine Q) (shares : List (ℕ × List DataRecord)) : Type 0 where
  pub history : List Entry
  pub stands : Stands e history
  pub streams : AreReady e.subscriptions shares

-- this is what an advance to t closes behind a history
pub record AreClosings {Q : Type 0} (e : Engine Q) (h : List Entry) (t : ℕ) (shares : List (ℕ × List DataRecord)) : Type 0 where
  pub shares_are : shares ≡ map (share_at h (Advance t)) (served h)
  pub room : AllByRecursion (HasRoomIn e.subscriptions) shares
  pub streamable : AllByRecursion AreStreamed shares
