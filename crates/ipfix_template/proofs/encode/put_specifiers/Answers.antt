use Rattle.std.proofs.Common.{◌+◌, ◌<◌, length, arith}
use Rattle.std.specs.Prelude.{vec_capacity}
use Rattle.ipfix_template.specs.Template.{specifier}
use Rattle.ipfix_template.proofs.Encoding.{no_room_for_specifiers, on_err}
use Rattle.ipfix_template.proofs.encode.put_specifiers.Goals as goal

pub returns-clause-capacity : goal.returns-clause-capacity
returns-clause-capacity c = c.loop-field.invariant.capacity

pub returns-in_err-put_specifier-clause-capacity : goal.returns-in_err-put_specifier-clause-capacity
returns-in_err-put_specifier-clause-capacity c = omega (arith, c.loop-field.invariant.capacity, c.put_specifier.ensures.capacity)

pub returns-in_err-put_specifier-clause-memory : goal.returns-in_err-put_specifier-clause-memory
returns-in_err-put_specifier-clause-memory c =
    let none : vec_capacity c.loop-field.out < length c.loop-field.out.items + length (specifier c.field-item.result) = omega (arith, c.in_err-put_specifier.ensures.memory, c.loop-field.out.ok.0) in
    let all = no_room_for_specifiers c.args.fields.now c.field-item.result c.loop-field.field-index c.args.out.now.items c.loop-field.out.items (vec_capacity c.args.out.now) (vec_capacity c.loop-field.out) c.loop-field-test.true c.field-item.is c.loop-field.invariant.items c.loop-field.invariant.capacity none in
    on_err c.from_residual.result (omega (arith, all, c.args.out.now.ok.0))
