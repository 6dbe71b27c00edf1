use Rattle.std.proofs.Common.{rules}
use Rattle.flow_aggregate.proofs.WidthLaws.{summed_from}
use Rattle.flow_aggregate.proofs.ClosedLaws.{template_of_copy}
use Rattle.flow_aggregate.proofs.definition.Definition.of.Goals as goal

pub invariant_of-result : goal.invariant_of-result
invariant_of-result c = (
  summed_from c.args.definition.now _ _ _ _ (search rules) (search rules) (search rules) c.key.ensures.sound c.requires,
  template_of_copy c.args.definition.now.key _ _ (search rules) (search rules),
)
