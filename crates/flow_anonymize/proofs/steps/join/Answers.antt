use Rattle.std.proofs.Common.{◌∷◌}
use Rattle.flow_anonymize.proofs.StepLaws.{alike_behind}
use Rattle.flow_anonymize.proofs.steps.join.Goals as goal

pub returns-in-Some : goal.returns-in-Some
returns-in-Some c = λ after. alike_behind c.args.steps.now.items (c.in-Some.both ∷ after) (c.args.last ∷ c.args.next ∷ after) (c.in-Some.ensures after)
