use Rattle.std.proofs.Common.{◌≡◌, ◌≤◌, ◌+◌, ℕ, btree_map_len}
use Rattle.flow_aggregate.specs.Agenda.{listed_at}
use Rattle.flow_aggregate.proofs.agenda.Agenda.drop_due.Given as goal

abbrev pub invariant-times : goal.invariant-times
invariant-times l = (q : ℕ) → l.t + 1 ≤ q → listed_at l.self.by_time.entries q ≡ listed_at l.fn.self.by_time.entries q

abbrev pub decreases-times : goal.decreases-times
decreases-times l = btree_map_len l.self.by_time
