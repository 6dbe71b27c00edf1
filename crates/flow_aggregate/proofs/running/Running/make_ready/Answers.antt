use Rattle.std.proofs.Common.{refl, arith, ◌∙◌}
use Rattle.flow_aggregate.specs.Counts.{Count}
use Rattle.flow_aggregate.proofs.PlaceLaws.{making_next, making_room}
use Rattle.flow_aggregate.proofs.running.Running.make_ready.Goals as goal

pub loop-count-preserved : goal.loop-count-preserved
loop-count-preserved c =
    let one : Count = record { group = c.count.inside.group; counters = c.count.inside.counters } in
    making_room _ _ _ _ _ _ _ _ (making_next c.args.self.now c.loop-count.self c.place_of.new.self c.loop-count.additions.items c.push_reserved.new.self.items c.args.counts.now c.loop-count.count-index
    c.in_ok-place.place _ one _ c.count.inside.counters (omega (arith, c.loop-count-test.true)) (c.count.view_is ∙ c.count-item.is) c.in_ok-place.ensures.unchanged c.in_ok-place.ensures.ready
    c.in_ok-place.ensures.place refl c.push_reserved.ensures.items c.loop-count.invariant) c.push_reserved.ensures.capacity
