use Rattle.flow_aggregate.proofs.AgendaLaws.{put_behind, put_listed}
use Rattle.flow_aggregate.proofs.listed.insert.Goals as goal

pub returns-clause-ok : goal.returns-clause-ok
returns-clause-ok c =
    put_behind c.reserve.new.self c.args.groups.now.entries c.insert-2.new.self.entries c.in_ok-kept.kept c.args.group.now c.none.result c.reserve.ensures.entries c.in_ok-kept.ensures c.none.ensures
    c.requires.wanting c.in-Ok.ensures.entries

pub returns-clause-listed : goal.returns-clause-listed
returns-clause-listed c =
    put_listed c.args.groups.now.entries c.reserve.new.self.entries c.insert-2.new.self.entries c.args.agenda.now.by_time.entries c.insert.new.self.by_time.entries c.in_ok-kept.kept c.in_ok-listed.listed
    c.args.group.now c.none.result c.requires.listed c.reserve.ensures.entries c.in_ok-kept.ensures c.in_ok-listed.ensures c.none.ensures c.requires.wanting c.in_ok-insert.ensures.ok
    c.insert-2.ensures.unique c.in-Ok.ensures.updates.0
