use Rattle.std.proofs.Common.{◌≡◌, false, btree_map_len}
use Rattle.flow_aggregate.specs.Groups.{Group}
use Rattle.flow_aggregate.specs.Running.{sums_at, is_due}
use Rattle.flow_aggregate.specs.Agenda.{AreListed}
use Rattle.flow_aggregate.proofs.listed.close_few.Given as goal

abbrev pub invariant-times : goal.invariant-times
invariant-times l = record {
  listed : AreListed l.groups.entries l.agenda.by_time.entries;
  stay : (g : Group) → is_due l.t g ≡ false → sums_at l.groups.entries g ≡ sums_at l.fn.groups.entries g;
}

abbrev pub decreases-times : goal.decreases-times
decreases-times l = btree_map_len l.agenda.by_time
