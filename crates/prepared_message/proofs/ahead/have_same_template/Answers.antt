use Rattle.std.proofs.Common.{sym, ◌∙◌}
use Rattle.ipfix_template.specs.SameTemplate.{same_template-is}
use Rattle.prepared_message.proofs.ahead.have_same_template.Goals as goal

pub returns : goal.returns
returns c = λ yes. sym c.template-template.ensures.value ∙ same_template-is c.template-template.result.now c.template.result.now (sym c.eq.ensures ∙ yes) ∙ c.template.ensures.value
