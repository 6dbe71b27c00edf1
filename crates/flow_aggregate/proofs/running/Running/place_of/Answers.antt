use Rattle.flow_aggregate.proofs.PlaceLaws.{not_found, found_at, made_at}
use Rattle.flow_aggregate.proofs.running.Running.place_of.Goals as goal

pub make-requires : goal.make-requires
make-requires c =
    not_found c.self.inside.counted c.self.inside.groups.entries c.args.self.now c.args.group.now c.get_index_of.result c.self.view_is c.get_index_of.ensures.found c.in-None.is

pub returns-in-Some-clause-place : goal.returns-in-Some-clause-place
returns-in-Some-clause-place c =
    found_at c.self.inside.counted c.self.inside.groups.entries c.args.self.now c.args.group.now c.get_index_of.result c.in-Some.place c.self.view_is c.get_index_of.ensures.index c.in-Some.is

pub returns-in-None-clause-place : goal.returns-in-None-clause-place
returns-in-None-clause-place c = made_at c.make.result c.args.self.now c.make.new.self c.args.group.now c.make.ensures.ok
