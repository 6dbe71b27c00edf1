use Rattle.std.proofs.Common.{◌≡◌, ◌++◌, take}
use Rattle.flow_aggregate.specs.Closed.{number_values}
use Rattle.flow_aggregate.proofs.closed.put_numbers.Given as goal

abbrev pub invariant-loop-number : goal.invariant-loop-number
invariant-loop-number l = l.values.items ≡ l.fn.values.items ++ number_values (take l.number-index l.numbers)
