use Rattle.flow_aggregate.proofs.KeptLaws.{kept_added, added_stand, none_ready}
use Rattle.flow_aggregate.proofs.running.Running.add_reserved.Goals as goal

pub invariant_of-self : goal.invariant_of-self
invariant_of-self c =
    kept_added c.self.inside.counted c.len-self-inside.result c.self.inside.groups.entries c.add_all.new.groups.entries c.self.inside.agenda.by_time.entries c.args.additions.items
    c.self.invariant c.add_all.ensures c.len-self-inside.ensures.len

pub returns-clause-adds : goal.returns-clause-adds
returns-clause-adds c before more stands ready =
    added_stand c.self.inside.counted c.len-self-inside.result c.self.inside.groups.entries c.add_all.new.groups.entries c.self.inside.agenda.by_time.entries c.args.self.now c.args.additions.items before more
    c.self.invariant c.self.view_is c.add_all.ensures c.len-self-inside.ensures.len stands ready

pub returns-clause-ready : goal.returns-clause-ready
returns-clause-ready c =
    none_ready c.len-self-inside.result c.self.inside.groups.entries c.add_all.new.groups.entries c.args.additions.items c.add_all.ensures c.len-self-inside.ensures.len
