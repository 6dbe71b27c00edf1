use Rattle.std.proofs.Common.{◌≤◌, length, ap, arith, rules}
use Rattle.ipfix_template.specs.declared.template.Template.{Template}
use Rattle.flow_anonymize.proofs.Bounds.{verdicts_are_judged}
use Rattle.flow_anonymize.proofs.by_table.plan_by.Goals as goal

pub for_passing-requires : goal.for_passing-requires
for_passing-requires c =
    let fields = ap (λ (t : Template). length t.fields) c.template.ensures.value in
    let few : length c.args.flow_record.now.template.fields ≤ 65535 = omega (arith, fields, c.len-fields.ensures.few, c.len-fields.ensures.value) in
    verdicts_are_judged c.args.name.now c.args.domain c.args.flow_record.now c.rules-for_proof.ensures.sound.version c.rules-for_proof.ensures.sound.aggregates c.args.table.now c.in_ok-verdicts.verdicts.items c.template.ensures.sound c.rules-for_proof.ensures.sound.spelled few (search rules)
