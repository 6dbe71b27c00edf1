use Rattle.std.proofs.Common.{ℕ, List, ap, ◌∙◌}
use Rattle.ipfix_session.specs.Keeping.{at_key}
use Rattle.ipfix_session.specs.Places.{Tabled}
use Rattle.ipfix_session.specs.Domains.{held_templates}
use Rattle.ipfix_session.proofs.SessionSteps.{template_is}
use Rattle.ipfix_session.proofs.session.Session.template.Goals as goal

pub returns : goal.returns
returns c = λ messages stands.
    c.template.ensures
    ∙ ap (λ (es : List (ℕ × Tabled)). at_key c.args.id (held_templates es c.args.domain)) c.all.ensures
    ∙ template_is c.self.inside.numbers c.self.inside.tables c.args.self.now c.self.view_is c.args.domain c.args.id messages stands
