use Rattle.std.proofs.Common.{sym, ap, ◌∙◌}
use Rattle.policy_text.specs.Elements.{element_of}
use Rattle.policy_text.proofs.ElementLaws.{element_of-answer, element_of-text}
use Rattle.policy_text.proofs.classes.find_element.Goals as goal

pub returns-in-Ok : goal.returns-in-Ok
returns-in-Ok c =
    element_of-answer c.in-Ok.text.now c.by_name.result c.by_name.ensures.found c.by_name.ensures.only ∙ ap element_of c.in-Ok.ensures.cases.0

pub returns-in-Err : goal.returns-in-Err
returns-in-Err c = sym (element_of-text c.args.word.now c.in-Err.ensures.cases.0)
