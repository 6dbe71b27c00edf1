use Rattle.std.proofs.Common.{length}
use Rattle.flow_anonymize.proofs.StepLaws.{AreMade}
use Rattle.flow_anonymize.proofs.steps.made_steps.Given as goal

abbrev pub invariant-fields : goal.invariant-fields
invariant-fields l = AreMade l.fields l.verdicts (length l.yielded) l.steps.items l.last
