use Rattle.std.proofs.Common.{Ok, ◌∙◌}
use Rattle.std.specs.Arc.{arc_value}
use Rattle.ipfix_session.proofs.SetSteps.{finds_along, run_added}
use Rattle.ipfix_session.proofs.data_set.read_set.Goals as goal

pub returns : goal.returns
returns c =
    let finds = finds_along (arc_value c.args.template.now) c.in_ok-layout.layout c.args.content.now c.deref.result.now (Ok c.in_ok-found.found) (c.in_ok-layout.ensures ∙ c.in_ok-clone.ensures.cases) c.deref.ensures c.in_ok-found.ensures in
    run_added (arc_value c.args.template.now) c.args.content.now c.in_ok-found.found c.args.records.now c.push_run.new.self c.in_ok-run.run' finds c.in_ok-run.ensures c.in_ok-push_run.ensures.ok
