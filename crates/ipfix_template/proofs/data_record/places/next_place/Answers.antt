use Rattle.std.proofs.Common.{sym, ◌∙◌}
use Rattle.std.proofs.lemmas.List.{take_rest}
use Rattle.ipfix_template.proofs.TextLaws.{next_there, passes}
use Rattle.ipfix_template.proofs.data_record.places.next_place.Goals as goal

pub unreachable-requires : goal.unreachable-requires
unreachable-requires c =
    next_there c.args.fields.now c.index-fields-place.result c.args.place c.args.used c.args.octets.now _ c.requires.kept c.requires.place c.index-fields-place.is (take_rest c.args.octets.now c.args.used) c.requires.passed (sym c.find_span.ensures.exact ∙ c.in-None.is)

pub returns-clause-shown : goal.returns-clause-shown
returns-clause-shown c =
    (passes c.args.fields.now c.index-fields-place.result c.args.place c.args.used c.in-Some.start c.in-Some.length c.args.octets.now _ c.requires.kept c.requires.place c.index-fields-place.is (take_rest c.args.octets.now c.args.used) c.requires.passed (sym c.in-Some.ensures.exact)).shown

pub returns-clause-passed : goal.returns-clause-passed
returns-clause-passed c =
    (passes c.args.fields.now c.index-fields-place.result c.args.place c.args.used c.in-Some.start c.in-Some.length c.args.octets.now _ c.requires.kept c.requires.place c.index-fields-place.is (take_rest c.args.octets.now c.args.used) c.requires.passed (sym c.in-Some.ensures.exact)).passed
