use Rattle.std.proofs.Common.{refl, arith}
use Rattle.flow_anonymize.specs.Parts.{record_at}
use Rattle.mediator_shares.proofs.AlikeLaws.{decided_within, decided_led, led_at, led_many}
use Rattle.mediator_shares.proofs.StretchLaws.{alike_step}
use Rattle.mediator_shares.proofs.deciding.keep_back.Goals as goal

pub bounds-places-place : goal.bounds-places-place
bounds-places-place c = omega (arith, c.served-test.true, led_many c.args.in_force.now.policy.rules c.args.leaders.now c.args.served.now c.args.places.now c.requires.led)

pub index-found-requires : goal.index-found-requires
index-found-requires c =
    let r = record_at c.args.run.now c.args.from in
    let there = decided_within c.args.domain c.args.in_force.now r c.args.decided.now.items c.args.leaders.now c.args.served.now c.args.places.now c.served.place 0 (c.requires.decided c.args.from (omega arith) c.requires.some) c.requires.led (omega (arith, c.served-test.true)) in
    omega (arith, there)

pub served-preserved : goal.served-preserved
served-preserved c =
    let one = led_at c.args.in_force.now.policy.rules c.args.leaders.now c.args.served.now c.args.places.now c.served.place _ _ _ _ c.requires.led (omega (arith, c.served-test.true)) refl refl in
    alike_step c.args.domain c.args.in_force.now c.args.run.now c.args.from c.args.to c.args.served.now c.served.place _ _ c.index-found.result.now c.served.kept.items c.put_kept.new.kept.items c.served.invariant (omega (arith, c.served-test.true)) refl
    (λ i low high. decided_led c.args.domain c.args.in_force.now (record_at c.args.run.now i) c.args.decided.now.items c.args.leaders.now _ _ c.index-found.result.now _ one (c.requires.decided i low high) c.index-found.ensures)
    (c.in_ok-put_kept.ensures.all c.if-not-branch.false) c.in_ok-put_kept.ensures.kept
