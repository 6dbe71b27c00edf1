use Rattle.std.proofs.Common.{◌≡◌, false}
use Rattle.flow_aggregate.specs.Groups.{Group}
use Rattle.flow_aggregate.specs.Running.{sums_at, is_due}
use Rattle.flow_aggregate.specs.Agenda.{AreListed}
use Rattle.flow_aggregate.proofs.AgendaLaws.{time_dropped}
use Rattle.flow_aggregate.proofs.listed.close_few.Goals as goal

pub times-preserved : goal.times-preserved
times-preserved c =
    let so : AreListed c.drop_all.new.groups.entries c.pop_due.new.self.by_time.entries
    × ((g : Group) → is_due c.args.t g ≡ false → sums_at c.drop_all.new.groups.entries g ≡ sums_at c.args.groups.now.entries g) =
    time_dropped c.args.t c.times.groups.entries c.drop_all.new.groups.entries c.args.groups.now.entries c.times.agenda.by_time.entries c.pop_due.new.self.by_time.entries c.in-Some.due.items
    c.deref.result.now c.times.invariant.listed c.in-Some.ensures.some c.deref.ensures.value c.drop_all.ensures.keys c.drop_all.ensures.sums c.times.invariant.stay in
    record { listed = so.0; stay = so.1 }
