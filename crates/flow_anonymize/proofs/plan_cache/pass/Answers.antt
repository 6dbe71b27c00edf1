use Rattle.std.proofs.Common.{sym, ap, ◌∙◌}
use Rattle.std.specs.Arc.{arc_value}
use Rattle.std.specs.Option.{option_map}
use Rattle.flow_anonymize.proofs.OutputLaws.{nothing_shown}
use Rattle.flow_anonymize.proofs.plan_cache.pass.Goals as goal

pub returns-in_default-clause-given : goal.returns-in_default-clause-given
returns-in_default-clause-given c =
    nothing_shown c.args.plan.now c.args.output.now.given c.args.from c.args.to c.args.run.now c.requires.order c.requires.within
    (sym c.template.ensures ∙ ap (option_map (λ t. arc_value t.now)) c.in_default.is)
