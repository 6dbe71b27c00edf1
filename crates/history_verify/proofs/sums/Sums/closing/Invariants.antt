use Rattle.std.proofs.Common.{◌≡◌, List, map, take}
use Rattle.event_journal.specs.declared.entry.Entry.{Entry}
use Rattle.flow_aggregate.specs.Closing.{closed_by}
use Rattle.mediator_history.specs.Counting.{running}
use Rattle.mediator_tables.specs.SubscriptionTable.{shown}
use Rattle.history_verify.specs.Parts.{AreSums}
use Rattle.history_verify.proofs.sums.Sums.closing.Given as goal

abbrev pub invariant-subs : goal.invariant-subs
invariant-subs l = (h : List Entry) → AreSums l.self h → map shown l.shares.items ≡ map (λ sub. (sub.0, closed_by l.t (running sub.0 h))) (take l.sub-index l.sub-items)
