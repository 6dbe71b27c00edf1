use Rattle.std.proofs.Common.{ap, arith}
use Rattle.ipfix_message.specs.Reading.{or_overrun}
use Rattle.ipfix_message.proofs.FieldSteps.{field_more, field_cut, fields_done}
use Rattle.ipfix_message.proofs.templates.first_fields.Goals as goal

pub returns-in_default-clause-read : goal.returns-in_default-clause-read
returns-in_default-clause-read c =
    ap or_overrun (field_cut c.loop.fields.items c.args.count c.loop.counter c.loop.rest.now _ c.loop-test.true c.in_default.ensures c.loop.invariant.read)

pub loop-preserved : goal.loop-preserved
loop-preserved c = record {
  read = rw c.in_ok-push.ensures.items (field_more c.loop.fields.items c.in-Some.field c.args.count c.loop.counter c.loop.rest.now c.in-Some.after.now _ c.loop-test.true c.in-Some.ensures c.loop.invariant.read);
  number = omega (arith, c.in_ok-push.ensures.len, c.loop.invariant.number);
}

pub returns-clause-read : goal.returns-clause-read
returns-clause-read c =
    ap or_overrun (fields_done c.loop.fields.items c.args.count c.loop.counter c.loop.rest.now _ (omega arith) c.loop.invariant.read)
