use Rattle.std.proofs.Common.{◌+◌, arith}
use Rattle.subscriber_stream.proofs.Queues.{filled_at}
use Rattle.subscriber_stream.proofs.Costs.{IsNext, IsLongest, IsRun-none, IsRun-over, IsRun-more, few_with}
use Rattle.subscriber_stream.proofs.fitting.whole_run.Goals as goal

pub loop-place-init : goal.loop-place-init
loop-place-init c = IsRun-none c.args.target c.args.queue.now.items

pub overflow_add-parts : goal.overflow_add-parts
overflow_add-parts c =
    let next : IsNext c.args.target c.args.queue.now.items c.loop-place.place c.loop-place.run.octets c.loop-place.last c.index-next.result.now c.fitting-more.result.parts c.fitting-more.result.octets = record { within = omega arith; there = c.index-next.ensures; fit = c.fitting-more.ensures.parts; counted = c.fitting-more.ensures.octets; small = c.fitting-more.ensures.small } in
    omega (arith, few_with _ _ _ _ _ _ _ _ _ c.loop-place.invariant next, c.requires.few)

longest : (c : goal.Then-more-len) → IsLongest c.args.target c.args.queue.now.items (c.loop-place.run.parts + c.fitting-more.result.parts) c.fitting-more.result.octets
longest c =
    let next : IsNext c.args.target c.args.queue.now.items c.loop-place.place c.loop-place.run.octets c.loop-place.last c.index-next.result.now c.fitting-more.result.parts c.fitting-more.result.octets = record { within = omega arith; there = c.index-next.ensures; fit = c.fitting-more.ensures.parts; counted = c.fitting-more.ensures.octets; small = c.fitting-more.ensures.small } in
    IsRun-over _ _ _ _ _ _ _ _ _ c.loop-place.invariant next (omega (arith, c.len.ensures))

pub returns-then-more-len-clause-parts : goal.returns-then-more-len-clause-parts
returns-then-more-len-clause-parts c = (longest c).parts_are

pub returns-then-more-len-clause-octets : goal.returns-then-more-len-clause-octets
returns-then-more-len-clause-octets c = (longest c).octets_are

pub returns-then-more-len-clause-within : goal.returns-then-more-len-clause-within
returns-then-more-len-clause-within c = (longest c).within

pub loop-place-preserved : goal.loop-place-preserved
loop-place-preserved c =
    let next : IsNext c.args.target c.args.queue.now.items c.loop-place.place c.loop-place.run.octets c.loop-place.last c.index-next.result.now c.fitting-more.result.parts c.fitting-more.result.octets = record { within = omega arith; there = c.index-next.ensures; fit = c.fitting-more.ensures.parts; counted = c.fitting-more.ensures.octets; small = c.fitting-more.ensures.small } in
    rw c.data_set-last.ensures (IsRun-more _ _ _ _ _ _ _ _ _ c.loop-place.invariant next (filled_at _ _ _ c.requires.filled (omega arith) c.index-next.ensures) (omega (arith, c.len.ensures)))
