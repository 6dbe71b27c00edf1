use Rattle.std.proofs.Common.{Some, sym, ap, ◌∙◌}
use Rattle.ipfix_template.specs.declared.template.Template.{Template}
use Rattle.ipfix_template.specs.SameTemplate.{same_template-is}
use Rattle.ipfix_session.proofs.changes.Changes.repeats.Goals as goal

pub returns-in-Some : goal.returns-in-Some
returns-in-Some c = λ is.
    let same = same_template-is c.deref-kept.result.now c.args.template.now (sym c.eq.ensures ∙ is) in
    sym c.in-Some.ensures.value ∙ ap (λ (t : Template). Some t) (sym c.deref-kept.ensures ∙ same)
