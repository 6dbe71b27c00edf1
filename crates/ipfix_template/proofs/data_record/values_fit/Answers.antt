use Rattle.std.proofs.Common.{◌≡◌, length, true, sym}
use Rattle.std.proofs.lemmas.List.{length_push}
use Rattle.std.proofs.lemmas.Slice.Zip.{zip_turn}
use Rattle.ipfix_template.specs.Values.{fits_field}
use Rattle.ipfix_template.proofs.Encoding.{fit_fields-uneven, fit_fields-next}
use Rattle.ipfix_template.proofs.data_record.values_fit.Goals as goal

pub returns-then-fields-values : goal.returns-then-fields-values
returns-then-fields-values c = sym (fit_fields-uneven c.args.fields.now c.args.values.now c.if-fields-values.true)

pub loop-field-preserved : goal.loop-field-preserved
loop-field-preserved c =
    let t = zip_turn c.args.fields.now c.args.values.now c.loop-field.yielded c.into_iter-field-iterator.result c.loop-field.field-iterator c.next.new.self c.next.result (cc) (cc) c.loop-field.yielded_by (c.in-Some.field, c.in-Some.value) c.in-Some.is c.next.ensures.steps in
    let field = t.2 c.in-Some.field.now in
    let value = t.3 c.in-Some.value.now in
    let n = length_push c.loop-field.yielded (c.in-Some.field, c.in-Some.value) in
    let fits : fits_field c.in-Some.field.now c.in-Some.value.now ≡ true = rw (← c.deref.ensures) (sym c.if-not-value_fits.ensures) in
    fit_fields-next c.args.fields.now c.args.values.now c.in-Some.field.now c.in-Some.value.now (length c.loop-field.yielded) _ _ t.0 t.1 n field value fits c.loop-field.invariant
