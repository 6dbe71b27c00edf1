use Rattle.std.proofs.Common.{refl, arith}
use Rattle.mediator_shares.proofs.SharingLaws.{noting_start, noting_step, counted_all}
use Rattle.mediator_shares.proofs.AlikeLaws.{decided_within, decided_led, led_at, led_many}
use Rattle.mediator_shares.proofs.shares.Sums.add_record.Goals as goal

pub served-init : goal.served-init
served-init c = noting_start c.args.self.now.tallies.items c.args.self.now.notes c.args.domain c.args.in_force.now c.args.index c.args.flow_record.now c.args.served.now c.requires.each_tally

pub bounds-places-place : goal.bounds-places-place
bounds-places-place c = omega (arith, c.served-test.true, led_many c.args.in_force.now.policy.rules c.args.leaders.now c.args.served.now c.args.places.now c.requires.led)

pub index-found-requires : goal.index-found-requires
index-found-requires c =
    let there = decided_within c.args.domain c.args.in_force.now c.args.flow_record.now c.args.decided.now.items c.args.leaders.now c.args.served.now c.args.places.now c.served.place 0 c.requires.decided c.requires.led (omega (arith, c.served-test.true)) in
    omega (arith, there)

pub add-requires : goal.add-requires
add-requires c = omega (arith, c.served-test.true, c.served.invariant.stay)

pub served-preserved : goal.served-preserved
served-preserved c =
    let l = c.served-test.true in
    let r = c.args.flow_record.now in
    let one = led_at c.args.in_force.now.policy.rules c.args.leaders.now c.args.served.now c.args.places.now c.served.place _ _ _ _ c.requires.led (omega (arith, l)) refl refl in
    noting_step c.args.self.now.tallies.items c.served.self.tallies.items c.add.new.self.tallies.items c.args.self.now.notes c.served.self.notes c.add.new.self.notes
    c.args.domain c.args.in_force.now c.args.index r c.args.served.now c.served.place _ _ c.index-found.result.now c.served.invariant (omega (arith, l)) refl
    (decided_led c.args.domain c.args.in_force.now r c.args.decided.now.items c.args.leaders.now _ _ c.index-found.result.now _ one c.requires.decided c.index-found.ensures)
    c.in_ok-add.ensures.tallies c.in_ok-add.ensures.stay c.in_ok-add.ensures.notes

pub returns : goal.returns
returns c =
    counted_all c.args.self.now.tallies.items c.served.self.tallies.items c.args.self.now.notes c.served.self.notes c.args.domain c.args.in_force.now c.args.index c.args.flow_record.now c.args.leaders.now c.args.served.now c.served.place
    c.served.invariant (omega (arith, c.served-test.false))
