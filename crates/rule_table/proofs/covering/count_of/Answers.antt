use Rattle.std.proofs.Common.{rules}
use Rattle.rule_table.proofs.CoveringLaws.{counted}
use Rattle.rule_table.proofs.covering.count_of.Goals as goal

pub returns : goal.returns
returns c = counted c.args.side c.args.flow_record.now c.as_slice.result.now c.count_in.result c.template.ensures.sound (search rules) c.count_in.ensures
