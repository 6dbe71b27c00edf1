use Rattle.std.proofs.Common.{◌≡◌, take, None, cond}
use Rattle.std.specs.List.{IsDistinct, list_any}
use Rattle.std.specs.Map.{keys_of}
use Rattle.flow_aggregate.specs.Groups.{Group}
use Rattle.flow_aggregate.specs.GroupOrder.{same_group}
use Rattle.flow_aggregate.specs.Running.{sums_at}
use Rattle.flow_aggregate.proofs.listed.drop_all.Given as goal

abbrev pub invariant-loop-group : goal.invariant-loop-group
invariant-loop-group l = record {
  keys : IsDistinct same_group (keys_of l.groups.entries);
  sums : (g : Group) → sums_at l.groups.entries g ≡ cond (list_any (same_group g) (take l.group-index l.gone)) None (sums_at l.fn.groups.entries g);
}
