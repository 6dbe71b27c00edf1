use Rattle.std.proofs.Common.{ℕ, cond, eqb, Option, refl, sym, ap, ◌∙◌, subst}
use Rattle.ipfix_session.specs.Meaning.{number_past, gap_between}
use Rattle.ipfix_session.specs.Keeping.{at_key}
use Rattle.ipfix_session.specs.Standing.{KeptSession, SessionStands}
use Rattle.ipfix_session.specs.Session.{standing_of}
use Rattle.ipfix_session.proofs.SessionSteps.{number_now, numbers_noted, noted_stands}
use Rattle.ipfix_session.proofs.session.Session.note.Goals as goal

pub returns-clause-gap : goal.returns-clause-gap
returns-clause-gap c = λ older stands.
    let h = c.args.header.now in
    c.gap_between.ensures ∙ ap (λ (o : Option ℕ). gap_between o h.sequence) (c.get-expected.ensures ∙ number_now c.self.inside.numbers c.self.inside.tables c.args.self.now c.self.view_is h.domain ∙ stands.expected h.domain)

pub returns-clause-stands : goal.returns-clause-stands
returns-clause-stands c = λ older message x stands header none contents count is.
    let h = c.args.header.now in
    noted_stands (standing_of c.self.inside.numbers c.self.inside.tables) (standing_of c.set.new.self c.self.inside.tables) older message h x c.args.records c.args.unknown refl
    (numbers_noted c.self.inside.numbers c.set.new.self h.domain c.number_past-next.result (number_past h c.args.records c.args.unknown) (c.number_past-next.ensures ∙ ap (λ (n : ℕ). number_past h n c.args.unknown) c.from.ensures) c.in_ok-set.ensures.ok)
    (subst (λ (s : KeptSession). SessionStands s.standing older) (sym c.self.view_is) stands) header none contents count is

pub returns-clause-number : goal.returns-clause-number
returns-clause-number c = λ q.
    let h = c.args.header.now in
    numbers_noted c.self.inside.numbers c.set.new.self h.domain c.number_past-next.result (number_past h c.args.records c.args.unknown) (c.number_past-next.ensures ∙ ap (λ (n : ℕ). number_past h n c.args.unknown) c.from.ensures) c.in_ok-set.ensures.ok q
    ∙ ap (λ (s : KeptSession). cond (eqb q h.domain) (number_past h c.args.records c.args.unknown) (at_key q s.standing.expected)) c.self.view_is
