use Rattle.rule_table.proofs.RarestLaws.{of_condition, of_who}
use Rattle.rule_table.proofs.rarest.rarest_mark.Goals as goal

pub returns-in-Some : goal.returns-in-Some
returns-in-Some c = of_condition c.args.rule.now c.condition_marks.result c.in-Some.mark c.condition_marks.ensures c.in-Some.ensures

pub returns-in-None : goal.returns-in-None
returns-in-None c = of_who c.args.rule.now c.condition_marks.result c.who_mark.result c.condition_marks.ensures c.in-None.ensures c.who_mark.ensures
