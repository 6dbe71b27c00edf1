-- How much a history disclosed to each subscription.
use Rattle.std.specs.Prelude.{ℕ, List, map, length}
use Rattle.std.specs.List.{flat_map}
use Rattle.event_journal.specs.declared.entry.Entry.{Entry}
use Rattle.mediator_history.specs.Subscriptions.{name_of, subscribed_in}
use Rattle.mediator_history.specs.Disclosed.{disclosed}
use Rattle.history_verify.specs.declared.count.SubscriptionCount.{SubscriptionCount}

-- how many records a history disclosed to a subscription, with its name
abbrev pub count_in : List Entry → ℕ → SubscriptionCount
count_in h sub = record { sub = sub; name = name_of sub h; disclosed = length (disclosed sub h) }

-- to each that began, in their order
abbrev pub counts_of : List Entry → List SubscriptionCount
counts_of h = map (count_in h) (flat_map subscribed_in h)
