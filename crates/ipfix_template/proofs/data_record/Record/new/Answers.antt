use Rattle.std.proofs.Common.{rules}
use Rattle.std.specs.Arc.{arc_value}
use Rattle.ipfix_template.proofs.TextLaws.{kept_is, kept_from}
use Rattle.ipfix_template.proofs.data_record.Record.new.Goals as goal

pub invariant_of-result : goal.invariant_of-result
invariant_of-result c = kept_from (arc_value c.args.template) c.args.values.now c.in_ok-octets.octets c.requires (search rules)

pub returns : goal.returns
returns c = kept_is (arc_value c.args.template) c.args.values.now c.in_ok-octets.octets c.requires.fit (search rules)
