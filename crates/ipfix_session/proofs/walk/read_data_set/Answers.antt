use Rattle.std.specs.Arc.{arc_value}
use Rattle.ipfix_session.specs.Changing.{after}
use Rattle.ipfix_session.proofs.WalkSteps.{added_unknown, added_records, none_there}
use Rattle.ipfix_session.proofs.walk.read_data_set.Goals as goal

pub returns-in_default-clause-reads : goal.returns-in_default-clause-reads
returns-in_default-clause-reads c =
    added_unknown (after c.args.state.now.changes c.args.base.now.templates c.args.id) _ c.args.state.now.records c.args.state.now.skips (none_there (λ t. arc_value t.now) c.get.result _ c.in_default.not-Some c.get.ensures.value)

pub returns-clause-reads : goal.returns-clause-reads
returns-clause-reads c =
    added_records (arc_value c.in-Some.template.now) (after c.args.state.now.changes c.args.base.now.templates c.args.id) c.in_ok-content.content _ c.args.state.now.records c.read_set.new.records c.args.state.now.skips c.read_set.result c.in-Some.ensures.value c.in_ok-content.ensures c.read_set.ensures
