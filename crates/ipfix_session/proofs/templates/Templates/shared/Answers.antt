use Rattle.std.proofs.Common.{ap, ◌∙◌}
use Rattle.ipfix_session.specs.declared.by_domain.ByDomain.{ByDomain}
use Rattle.ipfix_session.specs.Keeping.{at_key}
use Rattle.ipfix_session.specs.Domains.{held_templates}
use Rattle.ipfix_session.proofs.SessionSteps.{known_at}
use Rattle.ipfix_session.proofs.templates.Templates.shared.Goals as goal

pub returns : goal.returns
returns c =
    c.shared.ensures
    ∙ ap (λ (d : ByDomain). at_key c.args.id (held_templates d.tables.entries c.args.domain)) c.deref.ensures
    ∙ ap (at_key c.args.id) (known_at c.self.inside.tables c.args.self.now c.self.view_is c.args.domain)
