use Rattle.std.proofs.Common.{rules}
use Rattle.flow_aggregate.proofs.ClosedLaws.{values_found}
use Rattle.flow_aggregate.proofs.closed.ClosedAggregate.values.Goals as goal

pub returns : goal.returns
returns c =
    values_found c.args.self.now.group c.args.self.now.sums c.key-2.result.now c.in_ok-octets.octets c.start-start.result c.from.result c.put_key_values.new.values.items _
    (search rules) (search rules) c.start-start.ensures.value (search rules) (search rules) c.in_ok-put_numbers.ensures
