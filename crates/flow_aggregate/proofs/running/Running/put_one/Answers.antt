use Rattle.std.proofs.Common.{sym}
use Rattle.flow_aggregate.proofs.DueLaws.{put_counted, put_none, place_ready, none_at}
use Rattle.flow_aggregate.proofs.running.Running.put_one.Goals as goal

pub returns-in_ok-push : goal.returns-in_ok-push
returns-in_ok-push c =
    put_counted c.self.inside.counted c.self.inside.groups.entries c.args.self.now c.in-Some.place c.args.group.now c.in-Some.field-0-1.now c.in_ok-share.field-0 c.in-Some.sums.now c.new.result
    c.args.due.now.items c.push.new.self.items c.self.view_is c.self.invariant.listed.keys (sym c.in-Some.ensures.index) (sym c.in-Some.ensures.entry) c.if-place-self.true c.in_ok-share.ensures c.new.ensures
    c.in_ok-push.ensures.items

pub returns-else-place-self : goal.returns-else-place-self
returns-else-place-self c =
    put_none c.self.inside.counted c.self.inside.groups.entries c.args.self.now c.args.group.now c.args.due.now.items c.self.view_is
    (place_ready c.self.inside.counted c.self.inside.groups.entries c.in-Some.place c.args.group.now c.in-Some.field-0-1.now c.in-Some.sums.now c.self.invariant.listed.keys (sym c.in-Some.ensures.index)
    (sym c.in-Some.ensures.entry) c.if-place-self.false)

pub returns-in_default : goal.returns-in_default
returns-in_default c =
    put_none c.self.inside.counted c.self.inside.groups.entries c.args.self.now c.args.group.now c.args.due.now.items c.self.view_is
    (none_at c.self.inside.counted c.self.inside.groups.entries c.args.group.now (sym c.in_default.ensures.value))
