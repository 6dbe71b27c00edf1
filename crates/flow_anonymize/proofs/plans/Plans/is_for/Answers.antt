use Rattle.std.proofs.Common.{Some, sym, ap, ◌∙◌}
use Rattle.std.specs.Arc.{arc_value}
use Rattle.std.specs.Option.{option_map}
use Rattle.ipfix_template.specs.declared.template.Template.{Template}
use Rattle.ipfix_template.specs.SameTemplate.{same_template-is}
use Rattle.flow_anonymize.specs.Plans.{PlansOf}
use Rattle.flow_anonymize.proofs.plans.Plans.is_for.Goals as goal

pub returns-in-Some : goal.returns-in-Some
returns-in-Some c = λ equal.
    ap (λ (p : PlansOf). p.for.template) (sym c.self.view_is) ∙ ap (λ t. option_map arc_value t) c.in-Some.is
    ∙ ap (λ (t : Template). Some t) (sym c.deref-known.ensures ∙ same_template-is c.deref-known.result.now c.args.template.now (sym c.eq.ensures ∙ equal))
