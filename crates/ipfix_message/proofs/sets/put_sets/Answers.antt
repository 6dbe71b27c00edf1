use Rattle.std.proofs.Common.{arith, sym}
use Rattle.std.proofs.lemmas.Result.{err_from_is_err_and}
use Rattle.ipfix_message.specs.Reading.{set_front}
use Rattle.ipfix_message.proofs.Shrinks.{set_takes}
use Rattle.ipfix_message.proofs.ReadingSteps.{some_more, no_more, faulty, set_ends}
use Rattle.ipfix_message.proofs.sets.put_sets.Goals as goal

pub returns-in_err-rest-clause-read : goal.returns-in_err-rest-clause-read
returns-in_err-rest-clause-read c =
    let p = err_from_is_err_and c.from_residual.result c.from_residual.ensures.1 in
    rw (p.1, p.2) (faulty (set_front c.args.total) (set_takes c.args.total) c.sets.items.items c.sets.rest.now _ c.in_err-rest.field-0.0 c.in_err-rest.ensures.adds c.sets.invariant.read)

pub sets-preserved : goal.sets-preserved
sets-preserved c =
    let added = c.in_ok-rest.ensures.adds in
    record {
      left = omega (arith, c.in_ok-rest.ensures.shorter, c.sets.invariant.left);
      within = omega (arith, c.in_ok-rest.ensures.shorter, c.sets.invariant.within);
      read = rw added.1 (some_more (set_front c.args.total) (set_takes c.args.total) c.sets.items.items added.0 c.sets.rest.now c.in_ok-rest.rest.now _ added.2 c.sets.invariant.read);
    }

pub returns-clause-read : goal.returns-clause-read
returns-clause-read c =
    no_more (set_front c.args.total) (set_takes c.args.total) c.sets.items.items c.sets.rest.now _ (set_ends c.args.total c.sets.rest.now (sym c.sets-test.ensures)) c.sets.invariant.read
