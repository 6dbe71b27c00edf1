use Rattle.std.proofs.Common.{rules, sym}
use Rattle.flow_aggregate.proofs.WidthLaws.{place_within, first_is, first_wide}
use Rattle.flow_aggregate.proofs.values.first_value.Goals as goal

pub value-requires : goal.value-requires
value-requires c = place_within c.args.element c.args.flow_record.now _ c.in_ok-place.place (search rules) (sym c.in_ok-place.ensures)

pub returns-clause-exact : goal.returns-clause-exact
returns-clause-exact c =
    sym (first_is c.args.element c.args.flow_record.now c.as_slice-fields.result.now c.in_ok-place.place c.value.result.now c.template.ensures.sound (search rules) (sym c.in_ok-place.ensures) c.value.ensures.value)

pub returns-clause-wide : goal.returns-clause-wide
returns-clause-wide c =
    first_wide c.args.element c.args.flow_record.now c.value.result.now c.template.ensures.sound
    (first_is c.args.element c.args.flow_record.now c.as_slice-fields.result.now c.in_ok-place.place c.value.result.now c.template.ensures.sound (search rules) (sym c.in_ok-place.ensures) c.value.ensures.value)
