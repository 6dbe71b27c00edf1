use Rattle.flow_anonymize.proofs.Bounds.{verdicts_more}
use Rattle.flow_anonymize.proofs.fields.judge_candidates.Goals as goal

pub loop-field-preserved : goal.loop-field-preserved
loop-field-preserved c =
    verdicts_more c.args.candidates.now.name c.args.candidates.now.domain c.args.candidates.now.flow_record c.args.candidates.now.rules c.loop-field.field c.loop-field.verdicts.items c.push.new.self.items c.element_verdict.result c.loop-field.invariant c.element_verdict.ensures c.in_ok-push.ensures.items
