use Rattle.std.proofs.Common.{◌≡◌, ◌++◌, take}
use Rattle.flow_aggregate.specs.Closed.{key_fields}
use Rattle.flow_aggregate.proofs.closed_template.put_key_fields.Given as goal

abbrev pub invariant-loop-element : goal.invariant-loop-element
invariant-loop-element l = l.specs.items ≡ l.fn.specs.items ++ key_fields (take l.element-index l.key)
