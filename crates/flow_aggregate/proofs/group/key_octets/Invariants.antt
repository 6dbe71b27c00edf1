use Rattle.std.proofs.Common.{◌≡◌, take}
use Rattle.std.specs.List.{flat_map}
use Rattle.flow_aggregate.specs.Groups.{wide_value}
use Rattle.flow_aggregate.proofs.group.key_octets.Given as goal

abbrev pub invariant-loop-element : goal.invariant-loop-element
invariant-loop-element l = l.octets.items ≡ flat_map (wide_value l.flow_record) (take l.element-index l.key)
