use Rattle.rule_table.proofs.PlaceLaws.{lone_narrow_key}
use Rattle.rule_table.proofs.keys.narrow_key.Goals as goal

pub returns-clause-key : goal.returns-clause-key
returns-clause-key c =
    lone_narrow_key c.args.classes.now c.args.flow_record.now c.args.places.now c.args.from c.as_octets.result.now c.narrow_number-address.result c.narrow_digit-digit.result c.with_digit.result
    c.requires.there c.requires.lone c.as_octets.ensures.value c.narrow_number-address.ensures c.narrow_digit-digit.ensures.digit c.with_digit.ensures
