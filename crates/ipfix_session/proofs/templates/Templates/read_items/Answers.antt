use Rattle.std.proofs.Common.{◌≡◌, ℕ, List, sym, ap, ◌∙◌, subst}
use Rattle.std.proofs.lemmas.Result.{err_from_is_err_and}
use Rattle.ipfix_template.specs.declared.template.Template.{Template}
use Rattle.ipfix_session.specs.declared.by_domain.ByDomain.{ByDomain}
use Rattle.ipfix_session.specs.Keeping.{Keeps}
use Rattle.ipfix_session.specs.Standing.{templates_of}
use Rattle.ipfix_session.specs.Domains.{held_templates}
use Rattle.ipfix_session.proofs.SessionSteps.{known_at}
use Rattle.ipfix_session.proofs.templates.Templates.read_items.Goals as goal

pub returns-in_err-walk : goal.returns-in_err-walk
returns-in_err-walk c = λ older keeps.
    let base : c.table-base.result.now.templates ≡ templates_of c.args.domain c.args.self.now =
    c.table-base.ensures ∙ ap (λ (d : ByDomain). held_templates d.tables.entries c.args.domain) c.deref.ensures ∙ known_at c.self.inside.tables c.args.self.now c.self.view_is c.args.domain in
    let p = err_from_is_err_and c.from_residual.result c.from_residual.ensures.1 in
    rw (p.1, p.2) (c.in_err-walk.ensures.reads older (subst (λ (k : List (ℕ × Template)). Keeps k older) (sym base) keeps))

pub returns : goal.returns
returns c = λ older keeps.
    let base : c.table-base.result.now.templates ≡ templates_of c.args.domain c.args.self.now =
    c.table-base.ensures ∙ ap (λ (d : ByDomain). held_templates d.tables.entries c.args.domain) c.deref.ensures ∙ known_at c.self.inside.tables c.args.self.now c.self.view_is c.args.domain in
    c.in_ok-walk.ensures.reads older (subst (λ (k : List (ℕ × Template)). Keeps k older) (sym base) keeps)
