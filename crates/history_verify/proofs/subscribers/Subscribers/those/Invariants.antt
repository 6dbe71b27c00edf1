use Rattle.std.proofs.Common.{◌≡◌, ◌≤◌, List, length, map, take}
use Rattle.std.specs.Vec.{vec_capacity}
use Rattle.event_journal.specs.declared.entry.Entry.{Entry}
use Rattle.mediator_history.specs.Subscriptions.{name_of}
use Rattle.mediator_tables.specs.SubscriptionTable.{told}
use Rattle.history_verify.specs.Parts.{AreSubscribers}
use Rattle.history_verify.proofs.subscribers.Subscribers.those.Given as goal

abbrev pub invariant-subs : goal.invariant-subs
invariant-subs l = record {
  seen : (h : List Entry) → AreSubscribers l.self h → map told l.found.items ≡ map (λ sub. (sub, name_of sub h)) (take l.sub-index l.subs);
  room : length l.subs ≤ vec_capacity l.found;
  many : length l.found.items ≡ l.sub-index;
}
