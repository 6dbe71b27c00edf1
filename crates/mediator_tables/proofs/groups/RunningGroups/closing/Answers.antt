use Rattle.std.proofs.Common.{rules, map, ap, ◌∙◌}
use Rattle.flow_aggregate.specs.Closing.{record_of}
use Rattle.mediator_tables.proofs.GroupTableLaws.{closed_there, closed_nowhere}
use Rattle.mediator_tables.proofs.groups.RunningGroups.closing.Goals as goal

pub returns-in_ok-closing-in-Some : goal.returns-in_ok-closing-in-Some
returns-in_ok-closing-in-Some c =
    closed_there c.records_of.result (λ records. records) c.args.self.now c.args.sub.0 c.args.t c.in-Some.groups.now (map record_of c.deref.result.now) (search rules) c.records_of.ensures
    (λ counted stands. ap (λ cs. map record_of cs) c.deref.ensures.value ∙ c.in_ok-closing-in-Some.ensures counted stands)

pub returns-in-None : goal.returns-in-None
returns-in-None c counted stands = closed_nowhere c.args.self.now c.args.sub.0 c.args.t c.new.result counted (search rules) c.new.ensures stands
