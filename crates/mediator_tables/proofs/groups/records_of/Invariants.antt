use Rattle.std.proofs.Common.{◌≡◌, map, take}
use Rattle.flow_aggregate.specs.Closing.{record_of}
use Rattle.mediator_tables.proofs.groups.records_of.Given as goal

abbrev pub invariant-loop-one : goal.invariant-loop-one
invariant-loop-one l = l.records ≡ map record_of (take l.one-index l.closed)
