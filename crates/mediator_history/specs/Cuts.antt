-- Whom an entry cuts: the subscriptions that it gives more records than their queues take, or more shapes than they may use.
use Rattle.std.specs.Prelude.{ℕ, ◌+◌, Bool, nat_lt, List, ◌++◌, length, map, filter, ◌&&◌, ◌||◌}
use Rattle.ipfix_template.specs.DataRecord.{DataRecord}
use Rattle.subscriber_stream.specs.Shapes.{shapes_of}
use Rattle.subscriber_stream.specs.declared.limits.StreamLimits.{StreamLimits}
use Rattle.event_journal.specs.declared.entry.Entry.{Entry}
use Rattle.event_journal.specs.declared.entry.Entry.TheVariants.{Cut}
use Rattle.mediator_history.specs.Subscriptions.{served}
use Rattle.mediator_history.specs.Disclosed.{given_at, disclosed}

-- there are some records, and there is no room for them behind those that were disclosed, of which so many wait
abbrev pub overflows : StreamLimits → List DataRecord → ℕ → List DataRecord → Bool
overflows limits listed waiting more =
    nat_lt 0 (length more) && (nat_lt limits.queue (waiting + length more) || nat_lt limits.shapes (length (shapes_of (listed ++ more))))

-- whether the entry cuts a subscription, of whose records so many wait
abbrev pub is_cut_by : StreamLimits → List Entry → Entry → (ℕ → ℕ) → ℕ → Bool
is_cut_by limits before entry waiting sub = overflows limits (disclosed sub before) (waiting sub) (given_at sub before entry)

-- the cuts that stand directly before an entry, in the order of the subscriptions' numbers
abbrev pub cuts_before : StreamLimits → List Entry → Entry → (ℕ → ℕ) → List Entry
cuts_before limits before entry waiting = map Cut (filter (is_cut_by limits before entry waiting) (served before))

-- a history with cuts of these subscriptions behind it, one after another
abbrev pub after_cuts : List Entry → List ℕ → List Entry
after_cuts h subs = h ++ map Cut subs
