use Rattle.rule_table.proofs.PlaceLaws.{narrow_digit_of, wide_digit_of}
use Rattle.rule_table.proofs.keys.digit_at.Goals as goal

pub returns-in-Narrow-clause-digit : goal.returns-in-Narrow-clause-digit
returns-in-Narrow-clause-digit c =
    narrow_digit_of c.args.classes.now c.args.flow_record.now c.args.place.now c.in-Narrow.from c.as_octets.result.now c.narrow_number-address.result c.narrow_digit.result
    c.requires.there c.in-Narrow.is c.as_octets.ensures.value c.narrow_number-address.ensures c.narrow_digit.ensures.digit

pub returns-in-Wide-clause-digit : goal.returns-in-Wide-clause-digit
returns-in-Wide-clause-digit c =
    wide_digit_of c.args.classes.now c.args.flow_record.now c.args.place.now c.in-Wide.from c.as_octets-octets.result.now c.wide_digit.result
    c.requires.there c.in-Wide.is c.as_octets-octets.ensures.value c.wide_digit.ensures.digit
