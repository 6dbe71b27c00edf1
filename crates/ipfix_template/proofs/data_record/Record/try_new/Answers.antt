use Rattle.std.proofs.Common.{◌≡◌, rules}
use Rattle.std.specs.Arc.{arc_value}
use Rattle.ipfix_template.specs.Values.{record_text}
use Rattle.ipfix_template.specs.DataRecord.{IsSound}
use Rattle.ipfix_template.proofs.TextLaws.{kept_is, kept_from}
use Rattle.ipfix_template.proofs.data_record.Record.try_new.Goals as goal

pub invariant_of-result : goal.invariant_of-result
invariant_of-result c =
    let sound : IsSound (record { template = arc_value c.args.template; values = c.args.values }) = search rules in
    let text : c.in-Ok.octets ≡ record_text (arc_value c.args.template).fields c.args.values = search rules in
    kept_from (arc_value c.args.template) c.args.values c.in-Ok.octets sound text

pub returns-in-Ok : goal.returns-in-Ok
returns-in-Ok c =
    let sound : IsSound (record { template = arc_value c.args.template; values = c.args.values }) = search rules in
    let text : c.in-Ok.octets ≡ record_text (arc_value c.args.template).fields c.args.values = search rules in
    (kept_is (arc_value c.args.template) c.args.values c.in-Ok.octets sound.fit text, (kept_from (arc_value c.args.template) c.args.values c.in-Ok.octets sound text).sound)
