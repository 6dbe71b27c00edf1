use Rattle.std.proofs.Common.{rules, arith, ◌∙◌}
use Rattle.ipfix_template.proofs.TextLaws.{one_cut, all_cut}
use Rattle.ipfix_template.proofs.data_record.places.cut_values.Goals as goal

pub loop-place-preserved : goal.loop-place-preserved
loop-place-preserved c =
    record {
      passed = search rules;
      values = one_cut c.args.fields.now c.args.octets.now c.deref.result.now c.in_ok-slice.field-0 c.loop-place.values.items _ c.loop-place.place c.next_place-start.result.0 c.next_place-start.result.1 c.requires.kept c.loop-place-test.true c.deref.ensures c.next_place-start.ensures.shown c.in_ok-slice.ensures.ok c.loop-place.invariant.values c.in_ok-push.ensures.items;
    }

pub returns : goal.returns
returns c = c.loop-place.invariant.values ∙ all_cut c.args.fields.now c.args.octets.now c.loop-place.place c.requires.kept (omega arith)
