use Rattle.std.proofs.Common.{◌+◌, ◌<◌, length, take, arith, append_assoc}
use Rattle.std.specs.Prelude.{vec_capacity}
use Rattle.std.proofs.lemmas.List.{length_push, take_all}
use Rattle.std.proofs.lemmas.Slice.Zip.{zip_turn, zip_end}
use Rattle.ipfix_template.specs.Values.{record_text, value_text}
use Rattle.ipfix_template.proofs.Encoding.{fit_fields-length, fit_fields-at, record_text-more, no_room_for_values, on_err}
use Rattle.ipfix_template.proofs.encode.put_values.Goals as goal

pub encode_value-requires : goal.encode_value-requires
encode_value-requires c =
    let t = zip_turn c.args.fields.now c.args.values.now c.loop-field.yielded c.into_iter-field-iterator.result c.loop-field.field-iterator c.next.new.self c.next.result (cc) (cc) c.loop-field.yielded_by (c.in-Some.field, c.in-Some.value) c.in-Some.is c.next.ensures.steps in
    let field = t.2 c.in-Some.field.now in
    let value = t.3 c.in-Some.value.now in
    let at = fit_fields-at c.args.fields.now c.args.values.now (length c.loop-field.yielded) c.in-Some.field.now c.in-Some.value.now c.requires t.0 in
    cc

pub loop-field-preserved : goal.loop-field-preserved
loop-field-preserved c =
    let t = zip_turn c.args.fields.now c.args.values.now c.loop-field.yielded c.into_iter-field-iterator.result c.loop-field.field-iterator c.next.new.self c.next.result (cc) (cc) c.loop-field.yielded_by (c.in-Some.field, c.in-Some.value) c.in-Some.is c.next.ensures.steps in
    let field = t.2 c.in-Some.field.now in
    let value = t.3 c.in-Some.value.now in
    let n = length_push c.loop-field.yielded (c.in-Some.field, c.in-Some.value) in
    let more = record_text-more c.args.fields.now c.args.values.now (length c.loop-field.yielded) c.in-Some.field.now c.in-Some.value.now t.0 t.1 in
    let put = c.in_ok-encode_value.ensures.ok in
    let grown = append_assoc c.args.out.now.items (record_text (take (length c.loop-field.yielded) c.args.fields.now) (take (length c.loop-field.yielded) c.args.values.now)) (value_text c.in-Some.field.now c.deref.result.now) in
    let was = c.loop-field.invariant.items in
    record {
      items = cc;
      capacity = omega (arith, c.loop-field.invariant.capacity, c.in_ok-encode_value.ensures.capacity);
    }

pub returns-clause-ok : goal.returns-clause-ok
returns-clause-ok c =
    let n = zip_end c.args.fields.now c.args.values.now c.loop-field.yielded c.into_iter-field-iterator.result c.loop-field.field-iterator c.next.new.self c.next.result (cc) (cc) c.loop-field.yielded_by c.in-None.is c.next.ensures.steps in
    let even = fit_fields-length c.args.fields.now c.args.values.now c.requires in
    let fields = take_all (length c.loop-field.yielded) c.args.fields.now (omega arith) in
    let values = take_all (length c.loop-field.yielded) c.args.values.now (omega arith) in
    let was = c.loop-field.invariant.items in
    cc

pub returns-clause-capacity : goal.returns-clause-capacity
returns-clause-capacity c = c.loop-field.invariant.capacity

pub returns-in_err-encode_value-clause-capacity : goal.returns-in_err-encode_value-clause-capacity
returns-in_err-encode_value-clause-capacity c = omega (arith, c.loop-field.invariant.capacity, c.encode_value.ensures.capacity)

pub returns-in_err-encode_value-clause-memory : goal.returns-in_err-encode_value-clause-memory
returns-in_err-encode_value-clause-memory c =
    let t = zip_turn c.args.fields.now c.args.values.now c.loop-field.yielded c.into_iter-field-iterator.result c.loop-field.field-iterator c.next.new.self c.next.result (cc) (cc) c.loop-field.yielded_by (c.in-Some.field, c.in-Some.value) c.in-Some.is c.next.ensures.steps in
    let field = t.2 c.in-Some.field.now in
    let value = t.3 c.in-Some.value.now in
    let none : vec_capacity c.loop-field.out < length c.loop-field.out.items + length (value_text c.in-Some.field.now c.deref.result.now) = omega (arith, c.in_err-encode_value.ensures.memory, c.loop-field.out.ok.0) in
    let all = no_room_for_values c.args.fields.now c.args.values.now c.in-Some.field.now c.deref.result.now (length c.loop-field.yielded) c.args.out.now.items c.loop-field.out.items (vec_capacity c.args.out.now) (vec_capacity c.loop-field.out) t.0 t.1 (cc) (cc) c.loop-field.invariant.items c.loop-field.invariant.capacity none in
    on_err c.from_residual.result (omega (arith, all, c.args.out.now.ok.0))
