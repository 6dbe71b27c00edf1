use Rattle.std.proofs.Common.{◌≡◌, ◌-◌, length, drop, false}
use Rattle.std.specs.List.{list_any}
use Rattle.flow_aggregate.specs.GroupOrder.{same_group}
use Rattle.flow_aggregate.proofs.agenda.last_place.Given as goal

abbrev pub invariant-loop-behind : goal.invariant-loop-behind
invariant-loop-behind l = list_any (same_group l.group) (drop (length l.groups - l.behind) l.groups) ≡ false
