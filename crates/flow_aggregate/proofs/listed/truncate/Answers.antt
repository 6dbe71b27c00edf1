use Rattle.flow_aggregate.proofs.AgendaLaws.{one_popped, listed_less}
use Rattle.flow_aggregate.proofs.listed.truncate.Goals as goal

pub groups-preserved-in-Some : goal.groups-preserved-in-Some
groups-preserved-in-Some c = record {
  front = one_popped c.args.count c.len.result c.groups.groups.entries c.pop.new.self.entries c.args.groups.now.entries (c.in-Some.group, c.in-Some.field-0-1) c.in-Some.ensures.entries c.groups-test.true
      c.len.ensures.len c.groups.invariant.front;
  listed = listed_less c.groups.groups.entries c.pop.new.self.entries c.groups.agenda.by_time.entries c.remove.new.self.by_time.entries c.in-Some.group c.groups.invariant.listed c.remove.ensures
      c.pop.ensures.unique c.in-Some.ensures.updates.0;
}

pub groups-preserved : goal.groups-preserved
groups-preserved c = record {
  front = one_popped c.args.count c.len.result c.groups.groups.entries c.pop.new.self.entries c.args.groups.now.entries (c.in-Some.group, c.in-Some.field-0-1) c.in-Some.ensures.entries c.groups-test.true
      c.len.ensures.len c.groups.invariant.front;
  listed = listed_less c.groups.groups.entries c.pop.new.self.entries c.groups.agenda.by_time.entries c.remove.new.self.by_time.entries c.in-Some.group c.groups.invariant.listed c.remove.ensures
      c.pop.ensures.unique c.in-Some.ensures.updates.0;
}
