use Rattle.std.proofs.Common.{ℕ, Option, ap, ◌∙◌}
use Rattle.ipfix_session.specs.declared.read.Gap.{Gap}
use Rattle.ipfix_session.specs.Contents.{Contents}
use Rattle.ipfix_session.specs.Meaning.{gap_between}
use Rattle.ipfix_session.specs.ReadAhead.{Ahead}
use Rattle.ipfix_session.specs.Changing.{change_of}
use Rattle.ipfix_session.proofs.SessionSteps.{meaning, number_now, unchanging_reading}
use Rattle.ipfix_session.proofs.session.Session.reading_of.Goals as goal

pub returns-clause-meaning : goal.returns-clause-meaning
returns-clause-meaning c =
    let h = c.args.header in
    ap (λ (g : Option Gap). meaning h c.args.records c.args.skips g)
    (c.gap_between-gap.ensures ∙ ap (λ (o : Option ℕ). gap_between o h.sequence) (c.get.ensures ∙ number_now c.self.inside.numbers c.self.inside.tables c.args.self.now c.self.view_is h.domain))

pub returns-clause-reading : goal.returns-clause-reading
returns-clause-reading c = λ older message stands header none contents.
    let h = c.args.header in
    let held : Contents = record { records = c.args.records; skips = c.args.skips } in
    let r : Ahead = record { meaning = meaning h c.args.records c.args.skips c.gap_between-gap.result; change = change_of c.new.result; next = c.number_after-next.result } in
    unchanging_reading c.args.self.now.standing older message h held r stands header none contents
    (ap (λ (g : Option Gap). meaning h c.args.records c.args.skips g)
    (c.gap_between-gap.ensures ∙ ap (λ (o : Option ℕ). gap_between o h.sequence) (c.get.ensures ∙ number_now c.self.inside.numbers c.self.inside.tables c.args.self.now c.self.view_is h.domain)))
    c.new.ensures.nothing c.number_after-next.ensures
