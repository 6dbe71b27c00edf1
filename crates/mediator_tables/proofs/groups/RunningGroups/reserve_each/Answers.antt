use Rattle.std.proofs.Common.{◌∙◌, ap, arith, map}
use Rattle.std.proofs.lemmas.List.{map_push}
use Rattle.mediator_tables.specs.Adding.{tallied, reserved_for}
use Rattle.mediator_tables.proofs.AddingLaws.{reserving_next, reserving_few}
use Rattle.mediator_tables.proofs.groups.RunningGroups.reserve_each.Goals as goal

pub tallies-preserved : goal.tallies-preserved
tallies-preserved c =
    reserving_next tallied c.args.self.now c.tallies.self c.reserve_one.new.self (map reserved_for c.tallies.reserved.items) (map reserved_for c.push_reserved.new.self.items) c.args.tallies.now c.tallies.tally-index
    _ _ c.tally-item.result _ _ (omega (arith, c.tallies-test.true)) c.tally-item.is c.reserve_one.ensures.unchanged c.reserve_one.ensures.others c.reserve_one.ensures.places c.reserve_one.ensures.few
    c.in_ok-reserve_one.ensures.ok (ap (map reserved_for) c.push_reserved.ensures.items ∙ map_push reserved_for c.tallies.reserved.items _) c.push_reserved.ensures.capacity c.tallies.invariant

pub returns-in_err-reserve_one-clause-few : goal.returns-in_err-reserve_one-clause-few
returns-in_err-reserve_one-clause-few c =
    reserving_few tallied c.args.self.now c.tallies.self c.reserve_one.new.self (map reserved_for c.tallies.reserved.items) c.args.tallies.now c.tallies.tally-index _ _ c.tally-item.result _
    (omega (arith, c.tallies-test.true)) c.tally-item.is c.reserve_one.ensures.others c.reserve_one.ensures.few c.tallies.invariant
