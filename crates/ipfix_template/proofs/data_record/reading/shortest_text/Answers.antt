use Rattle.std.proofs.Common.{rules, ◌+◌, arith, sym, ◌∙◌}
use Rattle.std.proofs.lemmas.List.{take_rest}
use Rattle.ipfix_template.specs.Values.{values_in}
use Rattle.ipfix_template.proofs.ReadingLaws.{text_there, reads, one_written_again, all_written_again}
use Rattle.ipfix_template.proofs.data_record.reading.shortest_text.Goals as goal

pub unreachable-requires : goal.unreachable-requires
unreachable-requires c =
    text_there c.args.fields.now (values_in c.args.fields.now c.args.text.now) c.field-item.result c.loop-field.field-index c.loop-field.rest.now c.requires.fit c.loop-field-test.true c.field-item.is c.loop-field.invariant.left (sym c.find_span.ensures.exact ∙ c.in_default.is)

pub encode_value-requires : goal.encode_value-requires
encode_value-requires c =
    (reads c.args.fields.now (values_in c.args.fields.now c.args.text.now) c.field-item.result c.loop-field.field-index c.loop-field.rest.now c.in-Some.start c.in-Some.length c.requires.fit c.loop-field-test.true c.field-item.is c.loop-field.invariant.left (sym c.in-Some.ensures.exact)).fits

pub loop-field-preserved : goal.loop-field-preserved
loop-field-preserved c =
    let next = reads c.args.fields.now (values_in c.args.fields.now c.args.text.now) c.field-item.result c.loop-field.field-index c.loop-field.rest.now c.in-Some.start c.in-Some.length c.requires.fit c.loop-field-test.true c.field-item.is c.loop-field.invariant.left (sym c.in-Some.ensures.exact) in
    record {
      few = search rules;
      left = next.left _ (take_rest c.loop-field.rest.now (c.in-Some.start + c.in-Some.length));
      octets = one_written_again c.args.fields.now (values_in c.args.fields.now c.args.text.now) c.field-item.result c.loop-field.field-index _ c.loop-field.octets.items _ c.requires.fit c.loop-field-test.true c.field-item.is next.value c.loop-field.invariant.octets c.in_ok-encode_value.ensures.ok;
    }

pub returns : goal.returns
returns c =
    let whole = all_written_again c.args.fields.now (values_in c.args.fields.now c.args.text.now) c.loop-field.field-index c.requires.fit (omega arith) in
    let kept = c.loop-field.invariant.octets ∙ whole in
    search (rules, kept)
