use Rattle.std.proofs.Common.{List, ℕ, refl, ap, subst, string_bytes}
use Rattle.std.specs.Arc.{arc_value}
use Rattle.ipfix_template.specs.DataRecord.{DataRecord}
use Rattle.policy_text.specs.declared.rule.Rule.{Rule}
use Rattle.rule_table.specs.OfPolicy.{AreOfPolicy}
use Rattle.policy_judge.specs.Verdicts.{record_verdict_of}
use Rattle.flow_anonymize.specs.Remaining.{verdicts_of}
use Rattle.flow_anonymize.specs.Planning.{Plan, IsPlanFrom}
use Rattle.flow_anonymize.specs.Plans.{PlansOf}
use Rattle.flow_anonymize.proofs.PlanLaws.{planned_slot}
use Rattle.flow_anonymize.proofs.plans.Plans.planned.Goals as goal

-- the plan, by the name, the rules and the record that were handed on
abbrev IsPlanBy : Plan → ℕ → List ℕ → DataRecord → List Rule → Type 0
IsPlanBy plan domain name r rules = IsPlanFrom r.template (record_verdict_of name domain r rules) (verdicts_of name domain r rules) plan

pub returns : goal.returns
returns c = (
  refl,
  planned_slot _ c.args.self.now.for c.self.inside.cache.slots c.args.flow_record.now (record { classes = c.args.classes; plan = c.in_ok-plan.plan })
      (ap (λ (p : PlansOf). p.for) c.self.view_is) c.self.invariant (subst AreOfPolicy c.deref.ensures c.rules-for_proof.ensures.sound) c.requires.template c.requires.classes
      (subst (λ (r : DataRecord). IsPlanBy c.in_ok-plan.plan c.self.inside.domain (string_bytes c.self.inside.name) r (arc_value c.self.inside.table)) c.in_ok-single.ensures
      (subst (IsPlanBy c.in_ok-plan.plan c.self.inside.domain (string_bytes c.self.inside.name) c.in_ok-single.single) c.deref-2.ensures
      (subst (λ (name : List ℕ). IsPlanBy c.in_ok-plan.plan c.self.inside.domain name c.in_ok-single.single c.deref-2.result.now) c.as_str.ensures.value c.in_ok-plan.ensures.plan))),
)
