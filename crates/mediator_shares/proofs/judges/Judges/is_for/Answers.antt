use Rattle.std.proofs.Common.{Some, sym, ap, ◌∙◌}
use Rattle.ipfix_template.specs.declared.template.Template.{Template}
use Rattle.ipfix_template.specs.SameTemplate.{same_template-is}
use Rattle.mediator_shares.specs.Judges.{Judges}
use Rattle.mediator_shares.proofs.judges.Judges.is_for.Goals as goal

pub returns-in-Some : goal.returns-in-Some
returns-in-Some c = λ equal.
    ap (λ (j : Judges). j.template) (sym c.self.view_is) ∙ c.in-Some.is
    ∙ ap (λ (t : Template). Some t) (sym c.template.ensures ∙ same_template-is c.template.result.now c.args.template.now (sym c.eq.ensures ∙ equal))
