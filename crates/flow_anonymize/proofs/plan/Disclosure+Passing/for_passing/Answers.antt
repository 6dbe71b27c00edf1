use Rattle.std.proofs.Common.{ap, ◌∙◌, sym, refl}
use Rattle.ipfix_template.specs.declared.template.Template.{Template}
use Rattle.ipfix_template.specs.Template.{shortest_record}
use Rattle.flow_anonymize.specs.Remaining.{removed_fields}
use Rattle.flow_anonymize.specs.Steps.{steps_in}
use Rattle.flow_anonymize.proofs.Sound.{found_sound}
use Rattle.flow_anonymize.proofs.Planning.{steps_for}
use Rattle.flow_anonymize.proofs.plan.Disclosure+Passing.for_passing.Goals as goal

pub returns-clause-showable : goal.returns-clause-showable
returns-clause-showable c =
    let removed = c.deref-2.ensures.value ∙ c.in_ok-removed.ensures ∙ ap removed_fields c.deref.ensures.value in
    let scope = ap (λ (t : Template). t.scope) c.template.ensures.value in
    let octets = c.shortest.ensures ∙ ap shortest_record c.deref-5.ensures in
    let template = rw c.deref-3.ensures.value at c.in_ok-template.ensures in
    record {
      each = c.requires.each;
      within = c.requires.within;
      fields = ap (λ (t : Template). t.fields) template;
      sound = found_sound c.args.flow_record.now c.args.verdicts.items c.template.result.now.scope c.deref-2.result.now _ _ c.requires scope removed (sym c.in_default.ensures) template (λ none. c.if-shortest-eq0.false (octets ∙ none)) refl;
      by_steps = steps_for c.as_slice.result.now _ c.deref-6.result.now _ (steps_in c.in_ok-steps.steps) (c.as_slice.ensures.value ∙ ap (λ (t : Template). t.fields) c.template-2.ensures.value) c.deref-6.ensures.value c.in_ok-steps.ensures;
    }
