use Rattle.mediator_shares.proofs.KeyLaws.{key_kinds}
use Rattle.mediator_shares.proofs.revision.Revision.of.Goals as goal

pub definitions_of-requires : goal.definitions_of-requires
definitions_of-requires c = key_kinds c.args.policy c.aggregates.result.now c.rules-for_proof.ensures.sound c.aggregates.ensures
