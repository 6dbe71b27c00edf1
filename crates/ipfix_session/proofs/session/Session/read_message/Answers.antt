use Rattle.std.proofs.Common.{◌≡◌, ℕ, List, Option, sym, ap, ◌∙◌, subst}
use Rattle.std.proofs.lemmas.Result.{err_from_is_err_and}
use Rattle.ipfix_template.specs.declared.template.Template.{Template}
use Rattle.ipfix_session.specs.Meaning.{gap_between}
use Rattle.ipfix_session.specs.Keeping.{Keeps}
use Rattle.ipfix_session.specs.Places.{Tabled}
use Rattle.ipfix_session.specs.Standing.{kept_of}
use Rattle.ipfix_session.specs.Domains.{held_templates}
use Rattle.ipfix_session.proofs.SessionSteps.{templates_now, number_now}
use Rattle.ipfix_session.proofs.session.Session.read_message.Goals as goal

pub returns-in_err-walk-clause-reads : goal.returns-in_err-walk-clause-reads
returns-in_err-walk-clause-reads c = λ older keeps.
    let base : c.table-base.result.now.templates ≡ (kept_of c.args.header.domain c.args.self.now.standing).templates =
    c.table-base.ensures ∙ ap (λ (es : List (ℕ × Tabled)). held_templates es c.args.header.domain) c.all.ensures ∙ templates_now c.self.inside.numbers c.self.inside.tables c.args.self.now c.self.view_is c.args.header.domain in
    let p = err_from_is_err_and c.from_residual.result c.from_residual.ensures.1 in
    rw (p.1, p.2) (c.in_err-walk.ensures.reads older (subst (λ (k : List (ℕ × Template)). Keeps k older) (sym base) keeps))

pub returns-clause-reads : goal.returns-clause-reads
returns-clause-reads c = λ older keeps.
    let base : c.table-base.result.now.templates ≡ (kept_of c.args.header.domain c.args.self.now.standing).templates =
    c.table-base.ensures ∙ ap (λ (es : List (ℕ × Tabled)). held_templates es c.args.header.domain) c.all.ensures ∙ templates_now c.self.inside.numbers c.self.inside.tables c.args.self.now c.self.view_is c.args.header.domain in
    c.in_ok-walk.ensures.reads older (subst (λ (k : List (ℕ × Template)). Keeps k older) (sym base) keeps)

pub returns-clause-keeps : goal.returns-clause-keeps
returns-clause-keeps c = λ older keeps.
    let base : c.table-base.result.now.templates ≡ (kept_of c.args.header.domain c.args.self.now.standing).templates =
    c.table-base.ensures ∙ ap (λ (es : List (ℕ × Tabled)). held_templates es c.args.header.domain) c.all.ensures ∙ templates_now c.self.inside.numbers c.self.inside.tables c.args.self.now c.self.view_is c.args.header.domain in
    rw (← base) (c.in_ok-walk.ensures.keeps older (subst (λ (k : List (ℕ × Template)). Keeps k older) (sym base) keeps))

pub returns-clause-gap : goal.returns-clause-gap
returns-clause-gap c =
    c.gap_between.ensures ∙ ap (λ (o : Option ℕ). gap_between o c.args.header.sequence) (c.get-expected.ensures ∙ number_now c.self.inside.numbers c.self.inside.tables c.args.self.now c.self.view_is c.args.header.domain)
