use Rattle.std.proofs.Common.{rules, ◌≡◌, ◌∙◌}
use Rattle.std.specs.Arc.{arc_value}
use Rattle.ipfix_template.specs.Values.{values_in, record_text}
use Rattle.ipfix_template.proofs.TextLaws.{kept_is, kept_from}
use Rattle.ipfix_template.proofs.data_record.Record.read.Goals as goal

pub from_octets-requires-2 : goal.from_octets-requires-2
from_octets-requires-2 c =
    let text : c.in_ok-octets.octets ≡ record_text (arc_value c.args.template).fields (values_in (arc_value c.args.template).fields c.args.text) = search rules in
    kept_from (arc_value c.args.template) (values_in (arc_value c.args.template).fields c.args.text) c.in_ok-octets.octets c.requires.sound text

pub returns-clause-value : goal.returns-clause-value
returns-clause-value c =
    let text : c.in_ok-octets.octets ≡ record_text (arc_value c.args.template).fields (values_in (arc_value c.args.template).fields c.args.text) = search rules in
    c.from_octets-2.ensures ∙ kept_is (arc_value c.args.template) (values_in (arc_value c.args.template).fields c.args.text) c.in_ok-octets.octets c.requires.sound.fit text
