use Rattle.std.proofs.Common.{rules}
use Rattle.flow_aggregate.proofs.PlacingLaws.{group_found}
use Rattle.flow_aggregate.proofs.group.Group.of.Goals as goal

pub invariant_of-result : goal.invariant_of-result
invariant_of-result c =
    group_found c.args.definition.now c.args.flow_record.now _ _ _ c.requires.placed c.template-for_proof.ensures.sound c.key.ensures.sound (search rules) (search rules) (search rules)
