use Rattle.std.proofs.Common.{◌≡◌, length, ap, ◌∙◌, arith, map}
use Rattle.std.specs.List.{range_with_len}
use Rattle.policy_judge.specs.Verdicts.{element_verdict_of}
use Rattle.flow_anonymize.specs.Remaining.{verdicts_of}
use Rattle.flow_anonymize.proofs.Bounds.{verdicts_are_judged, verdicts_more}
use Rattle.flow_anonymize.proofs.fields.judge_fields.Goals as goal

pub loop-field-preserved : goal.loop-field-preserved
loop-field-preserved c =
    verdicts_more c.args.name.now c.args.domain c.args.flow_record.now c.args.policy.now.rules c.loop-field.field c.loop-field.verdicts.items c.push.new.self.items c.element_verdict.result c.loop-field.invariant c.element_verdict.ensures c.in_ok-push.ensures.items

pub returns-clause-judged : goal.returns-clause-judged
returns-clause-judged c =
    let count = c.len-count.ensures.value in
    let few = c.len-count.ensures.few in
    let fields = ap (λ t. length t.fields) c.template.ensures.value in
    let end : c.loop-field.field ≡ length c.args.flow_record.now.template.fields = omega (arith, count, fields, c.loop-field-test.false, c.loop-field.auto.field-end) in
    let whole : c.loop-field.verdicts.items ≡ verdicts_of c.args.name.now c.args.domain c.args.flow_record.now c.args.policy.now.rules =
    c.loop-field.invariant ∙ ap (λ n. map (λ place. element_verdict_of c.args.name.now c.args.domain c.args.flow_record.now place c.args.policy.now.rules) (range_with_len 0 n)) end in
    verdicts_are_judged c.args.name.now c.args.domain c.args.flow_record.now c.args.policy.now.version c.args.policy.now.aggregates c.args.policy.now.rules c.loop-field.verdicts.items c.template.ensures.sound c.rules-for_proof.ensures.sound.rules (omega (arith, count, few, fields)) whole
