use Rattle.std.proofs.Common.{◌≡◌, length, get_or, arith, ap}
use Rattle.std.proofs.lemmas.List.{length_push, take_all}
use Rattle.std.proofs.lemmas.Slice.Zip.{zip_turn, zip_end}
use Rattle.ipfix_template.specs.Values.{value_text}
use Rattle.ipfix_template.proofs.Encoding.{fit_fields-length, fit_fields-at, length-record_text-more}
use Rattle.ipfix_template.proofs.data_record.record_octets.Goals as goal

pub value_octets-octets-requires : goal.value_octets-octets-requires
value_octets-octets-requires c =
    let t = zip_turn c.args.fields.now c.args.values.now c.loop-field.yielded c.into_iter-field-iterator.result c.loop-field.field-iterator c.next.new.self c.next.result (cc) (cc) c.loop-field.yielded_by (c.in-Some.field, c.in-Some.value) c.in-Some.is c.next.ensures.steps in
    let field = t.2 c.in-Some.field.now in
    let value = t.3 c.in-Some.value.now in
    let at = fit_fields-at c.args.fields.now c.args.values.now (length c.loop-field.yielded) c.in-Some.field.now c.in-Some.value.now c.requires.fit t.0 in
    cc

pub loop-field-preserved : goal.loop-field-preserved
loop-field-preserved c =
    let t = zip_turn c.args.fields.now c.args.values.now c.loop-field.yielded c.into_iter-field-iterator.result c.loop-field.field-iterator c.next.new.self c.next.result (cc) (cc) c.loop-field.yielded_by (c.in-Some.field, c.in-Some.value) c.in-Some.is c.next.ensures.steps in
    let field = t.2 c.in-Some.field.now in
    let value = t.3 c.in-Some.value.now in
    let n = length_push c.loop-field.yielded (c.in-Some.field, c.in-Some.value) in
    let more = length-record_text-more c.args.fields.now c.args.values.now (length c.loop-field.yielded) c.in-Some.field.now c.in-Some.value.now t.0 t.1 in
    let octets = c.value_octets-octets.ensures.exact in
    let few = c.value_octets-octets.ensures.few in
    let same : value_text c.in-Some.field.now c.deref.result.now ≡ value_text (get_or c.args.fields.now (length c.loop-field.yielded) c.in-Some.field.now) (get_or c.args.values.now (length c.loop-field.yielded) c.in-Some.value.now) = cc in
    rw n (omega (arith, more, ap length same, octets), omega (arith, few))

pub returns : goal.returns
returns c =
    let n = zip_end c.args.fields.now c.args.values.now c.loop-field.yielded c.into_iter-field-iterator.result c.loop-field.field-iterator c.next.new.self c.next.result (cc) (cc) c.loop-field.yielded_by c.in-None.is c.next.ensures.steps in
    let even = fit_fields-length c.args.fields.now c.args.values.now c.requires.fit in
    let fields = take_all (length c.loop-field.yielded) c.args.fields.now (omega arith) in
    let values = take_all (length c.loop-field.yielded) c.args.values.now (omega arith) in
    cc
