use Rattle.std.proofs.Common.{◌∙◌}
use Rattle.rule_table.proofs.KeyLaws.{key_from_fields}
use Rattle.rule_table.proofs.classes.AddressClasses.key.Goals as goal

pub returns-clause-key : goal.returns-clause-key
returns-clause-key c = c.key_of_fields.ensures ∙ key_from_fields c.args.self.now c.args.side c.args.flow_record.now
