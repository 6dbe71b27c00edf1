use Rattle.std.proofs.Common.{◌≡◌, ◌<◌, ◌∙◌, length, get_or, sym, ap, arith}
use Rattle.std.specs.List.{position}
use Rattle.ipfix_template.specs.declared.template.Template.{Template}
use Rattle.policy_judge.specs.Match.{matches_field}
use Rattle.policy_judge.specs.Verdicts.{element_verdict_at}
use Rattle.policy_judge.proofs.FirstRuleLaws.{element_there, element_verdict_first}
use Rattle.policy_judge.proofs.judge.element_verdict_of.Goals as goal

pub returns : goal.returns
returns c =
    let name = c.args.name.now in
    let r = c.args.flow_record.now in
    let rules = c.args.rules.now in
    let fields : c.as_slice.result.now ≡ r.template.fields = c.as_slice.ensures.value ∙ ap (λ (t : Template). t.fields) c.template.ensures.value in
    let long = ap length fields in
    let within : c.args.field < length c.as_slice.result.now = omega (arith, long, c.requires.there) in
    let is = element_there r c.as_slice.result.now c.args.field c.index-as_slice-field.result fields within in
    c.element_verdict_at.ensures ∙ ap (element_verdict_at rules) (rw c.as_bytes.ensures.value at c.first_on_fields-first.ensures.value)
    ∙ ap (λ e. element_verdict_at rules (position (matches_field name c.args.domain r e) rules)) (sym is) ∙ element_verdict_first name c.args.domain r c.args.field rules
