use Rattle.std.proofs.Common.{◌≡◌, take}
use Rattle.mediator_shares.proofs.revision.definitions_of.Given as goal

abbrev pub invariant-loop-definition : goal.invariant-loop-definition
invariant-loop-definition l = l.definitions.items ≡ take l.definition-index l.aggregates
