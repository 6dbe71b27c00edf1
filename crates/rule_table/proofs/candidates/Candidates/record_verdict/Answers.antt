use Rattle.rule_table.proofs.VerdictLaws.{record_judged}
use Rattle.rule_table.proofs.candidates.Candidates.record_verdict.Goals as goal

pub returns : goal.returns
returns c =
    record_judged c.args.self.now c.self.inside.rules.now c.self.inside.name.now c.self.inside.domain c.self.inside.flow_record.now c.self.inside.on_record c.record_verdict_at.result c.self.view_is c.self.invariant.of_records c.record_verdict_at.ensures
