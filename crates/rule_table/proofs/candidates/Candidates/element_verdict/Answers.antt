use Rattle.std.proofs.Common.{◌≡◌, ◌<◌, length, get_or, ap, ◌∙◌, arith}
use Rattle.std.specs.Ordering.{nat_cmp}
use Rattle.std.specs.BTreeMap.{get}
use Rattle.ipfix_template.specs.declared.template.Template.{Template}
use Rattle.policy_judge.proofs.FirstRuleLaws.{element_there}
use Rattle.rule_table.specs.Candidates.{Judged}
use Rattle.rule_table.proofs.EarlierLaws.{element_first}
use Rattle.rule_table.proofs.VerdictLaws.{element_judged, judging}
use Rattle.rule_table.proofs.candidates.Candidates.element_verdict.Goals as goal

pub returns : goal.returns
returns c =
    let rules = c.self.inside.rules.now in
    let name = c.self.inside.name.now in
    let domain = c.self.inside.domain in
    let r = c.self.inside.flow_record.now in
    let element = (get_or c.as_slice.result.now c.args.field c.index-as_slice-field.result).element in
    let fields : c.as_slice.result.now ≡ r.template.fields = c.as_slice.ensures.value ∙ ap (λ (t : Template). t.fields) c.template.ensures.value in
    let long = ap length fields in
    let same = ap (λ (j : Judged). length j.flow_record.template.fields) c.self.view_is in
    let within : c.args.field < length c.as_slice.result.now = omega (arith, long, same, c.requires) in
    let there = element_there r c.as_slice.result.now c.args.field c.index-as_slice-field.result fields within in
    let first = element_first (judging rules name domain r) c.self.inside.on_record c.self.inside.on_any (get nat_cmp c.self.inside.on_named) c.args.field element c.first_on-named.result c.earlier.result c.self.invariant c.first_on-named.ensures.below there c.first_on-named.ensures.value c.earlier.ensures in
    element_judged c.args.self.now rules name domain r c.args.field c.earlier.result c.element_verdict_at.result c.self.view_is first c.element_verdict_at.ensures
