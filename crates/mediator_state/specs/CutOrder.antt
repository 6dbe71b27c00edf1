-- In which order an entry cuts.
use Rattle.std.specs.Prelude.{◌≡◌, ℕ, List, map}
use Rattle.subscriber_stream.specs.declared.limits.StreamLimits.{StreamLimits}
use Rattle.event_journal.specs.declared.entry.Entry.{Entry}
use Rattle.event_journal.specs.declared.entry.Entry.TheVariants.{Cut}
use Rattle.mediator_history.specs.Cuts.{cuts_before}
use Rattle.mediator_state.specs.Ascending.{Ascend}
use Rattle.mediator_state.specs.Standing.{AreNumbered}

-- these entries are cuts, and the numbers of their subscriptions ascend
pub record CutsAscend (cuts : List Entry) : Type 0 where
  pub subs : List ℕ
  pub are : cuts ≡ map Cut subs
  pub ascend : Ascend subs

-- the cuts that stand before an entry ascend by number, whatever waits
abbrev pub CutsBeforeAscend : Type 0
CutsBeforeAscend = (limits : StreamLimits) (h : List Entry) (entry : Entry) (waiting : ℕ → ℕ) → AreNumbered h → CutsAscend (cuts_before limits h entry waiting)
