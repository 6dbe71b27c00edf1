use Rattle.std.proofs.Common.{◌≡◌, ◌++◌, List, map}
use Rattle.event_journal.specs.declared.entry.Entry.{Entry}
use Rattle.mediator_history.specs.Subscriptions.{name_of}
use Rattle.mediator_tables.specs.SubscriptionTable.{told}
use Rattle.history_verify.specs.Parts.{AreSubscribers}
use Rattle.history_verify.proofs.subscribers.Subscribers.served_if.Given as goal

abbrev pub invariant-served : goal.invariant-served
invariant-served l = (h : List Entry) → AreSubscribers l.self h → map told l.found.items ++ map (λ sub. (sub, name_of sub h)) l.sub-iterator ≡ map (λ sub. (sub, name_of sub h)) l.self.served.keys
