use Rattle.std.proofs.Common.{sym, ◌∙◌}
use Rattle.rule_table.proofs.CoveringLaws.{some_in_first, some_in_none}
use Rattle.rule_table.proofs.covering.some_in.Goals as goal

pub returns-in-Some : goal.returns-in-Some
returns-in-Some c =
    c.is_in.ensures
    ∙ some_in_first c.args.width c.args.length c.args.address c.args.numbers.now c.from_bound.result.now c.in-Some.number.now c.from_bound.ensures.ascending c.from_bound.ensures.among c.from_bound.ensures.kept c.from_bound.ensures.above (sym c.in-Some.ensures.value)

pub returns-in-None : goal.returns-in-None
returns-in-None c = some_in_none c.args.width c.args.length c.args.address c.args.numbers.now c.from_bound.result.now c.from_bound.ensures.kept (sym c.in-None.ensures.value)
