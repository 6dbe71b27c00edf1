use Rattle.std.proofs.Common.{rules}
use Rattle.policy_judge.proofs.OccurrenceLaws.{some_field}
use Rattle.policy_judge.proofs.occurrences.occurs.Goals as goal

pub returns : goal.returns
returns c = some_field c.args.side c.args.flow_record.now c.as_slice.result.now c.template.ensures.sound (search rules) c.has_field.ensures
