-- What stands in a mediator's journal since a place in it, and how many records its subscriptions were handed.
use Rattle.std.specs.Prelude.{◌≡◌, ℕ, ◌+◌, ◌≤◌, Bool, true, false, List, map, sum, filter, length, take, drop}
use Rattle.subscriber_stream.specs.Parts.{parts, records_of_parts}
use Rattle.event_journal.specs.declared.entry.Entry.{Entry}
use Rattle.event_journal.specs.declared.entry.Entry.TheVariants.{Open, Close, Cut}
use Rattle.mediator_history.specs.Disclosed.{disclosed}
use Rattle.mediator_calls.specs.Mediation.{Mediation, live, place_at}

-- a mediator; the place in its journal from which on entries are counted; and the records that were handed to subscriptions which
-- have ended
pub record CountedMediation : Type 0 where
  pub core : Mediation
  pub from : ℕ
  pub gone : ℕ

abbrev pub with_counts : Mediation → ℕ → ℕ → CountedMediation
with_counts core from gone = record { core = core; from = from; gone = gone }

-- a message, an edit, a subscription's begin or end, and an advance of the clock: whoever made the call has its receipt
abbrev pub has_receipt : Entry → Bool
has_receipt (Open session) = false
has_receipt (Close session) = false
has_receipt (Cut sub) = false
has_receipt _ = true

abbrev pub receipts_in : List Entry → ℕ
receipts_in es = length (filter has_receipt es)

-- how many of these stand in the journal since the place
abbrev pub receipts_since : CountedMediation → ℕ
receipts_since c = receipts_in (drop c.from c.core.history)

-- how many records a live subscription was handed
abbrev pub handed_at : Mediation → ℕ → ℕ
handed_at m sub = length (records_of_parts (take (place_at m sub) (parts (disclosed sub m.history))))

-- how many the live ones were handed together
abbrev pub handed_live : Mediation → ℕ
handed_live m = sum (map (handed_at m) (live m.history))

-- how many the live ones were handed, and those that have ended
abbrev pub handed_of : CountedMediation → ℕ
handed_of c = c.gone + handed_live c.core

-- the place isn't past the journal's end, and what is counted is how many records were handed
pub record IsCounted (core : Mediation) (from gone handed : ℕ) : Type 0 where
  pub within : from ≤ length core.history
  pub counted : handed ≡ handed_of (with_counts core from gone)

-- the same place and entries before it; so many more entries are counted, so many records more were handed, and so many of them are
-- now those of subscriptions that have ended
pub record Counts (old : CountedMediation) (entries handed gone : ℕ) (new : CountedMediation) : Type 0 where
  pub from : new.from ≡ old.from
  pub before : take new.from new.core.history ≡ take old.from old.core.history
  pub entries_are : receipts_since new ≡ receipts_since old + entries
  pub handed_are : handed_of new ≡ handed_of old + handed
  pub gone_are : new.gone ≡ old.gone + gone
