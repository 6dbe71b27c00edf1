use Rattle.std.proofs.Common.{◌≡◌, take, length}
use Rattle.flow_aggregate.specs.Agenda.{AreListed}
use Rattle.flow_aggregate.proofs.listed.truncate.Given as goal

abbrev pub invariant-groups : goal.invariant-groups
invariant-groups l = record {
  front : take l.count l.groups.entries ≡ take l.count l.fn.groups.entries;
  listed : AreListed l.groups.entries l.agenda.by_time.entries;
}

abbrev pub decreases-groups : goal.decreases-groups
decreases-groups l = length l.groups.entries
