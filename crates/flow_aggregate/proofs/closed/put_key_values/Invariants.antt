use Rattle.std.proofs.Common.{◌≡◌, ◌++◌, drop, length}
use Rattle.std.specs.List.{sum_by}
use Rattle.flow_aggregate.specs.Values.{full_width}
use Rattle.flow_aggregate.specs.Closed.{key_values}
use Rattle.flow_aggregate.proofs.closed.put_key_values.Given as goal

abbrev pub invariant-loop-element : goal.invariant-loop-element
invariant-loop-element l = record {
  long : length l.rest ≡ sum_by full_width (drop l.element-index l.key);
  due : l.values.items ++ key_values (drop l.element-index l.key) l.rest ≡ l.fn.values.items ++ key_values l.key l.fn.octets;
}
