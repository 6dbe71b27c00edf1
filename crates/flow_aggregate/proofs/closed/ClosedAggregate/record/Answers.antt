use Rattle.std.proofs.Common.{rules}
use Rattle.flow_aggregate.proofs.ClosedLaws.{found_sound}
use Rattle.flow_aggregate.proofs.closed.ClosedAggregate.record.Goals as goal

pub new-requires : goal.new-requires
new-requires c =
    found_sound c.args.self.now.group c.args.self.now.sums (Rattle.std.specs.Arc.arc_value c.in_ok-template.template) c.from_vec-values.result c.definition.ensures.sound (search rules) (search rules)
