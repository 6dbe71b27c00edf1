use Rattle.flow_anonymize.proofs.StepLaws.{shows_nothing, skips_variable}
use Rattle.flow_anonymize.proofs.steps.end.Goals as goal

pub returns-in-Octets : goal.returns-in-Octets
returns-in-Octets c =
    shows_nothing c.args.last c.in-Octets.stretch c.args.steps.now.items c.in-Octets.is (c.shows_none.ensures.shown c.if-shows_none.true) (c.shows_none.ensures.zeros c.if-shows_none.true)

pub returns-in-SkipVariable : goal.returns-in-SkipVariable
returns-in-SkipVariable c = skips_variable c.args.last c.args.steps.now.items c.in-SkipVariable.is
