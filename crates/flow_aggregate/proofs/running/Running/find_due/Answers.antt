use Rattle.std.proofs.Common.{ap, ◌∙◌}
use Rattle.flow_aggregate.specs.Running.{Entries, due_of}
use Rattle.flow_aggregate.proofs.ClosingLaws.{due_step, are_due}
use Rattle.flow_aggregate.proofs.KeptLaws.{counted_once, counted_whole}
use Rattle.flow_aggregate.proofs.running.Running.find_due.Goals as goal

pub loop-place-preserved : goal.loop-place-preserved
loop-place-preserved c =
    due_step c.args.t c.self.inside.counted c.self.inside.groups.entries c.args.self.now c.loop-place.place c.in-Some.group.now c.in-Some.sums.now c.loop-place.due.items c.put_due.new.due.items
    c.self.view_is c.loop-place-test.true c.self.invariant.within c.in-Some.ensures.entry c.loop-place.invariant c.in_ok-put_due.ensures

pub returns : goal.returns
returns c =
    are_due c.args.t c.args.self.now.groups c.loop-place.due.items (counted_once c.self.inside.counted c.self.inside.groups.entries c.args.self.now c.self.view_is c.self.invariant.listed.keys)
    (c.loop-place.invariant ∙ ap (λ (ds : Entries). due_of c.args.t ds) (counted_whole c.self.inside.counted c.loop-place.place c.self.inside.groups.entries c.args.self.now c.self.view_is c.loop-place-test.false))
