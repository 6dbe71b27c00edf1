use Rattle.std.proofs.Common.{sym, subst}
use Rattle.ipfix_session.specs.Standing.{KeptSession, SessionStands}
use Rattle.ipfix_session.specs.ReadAhead.{Ahead, IsReadingOf}
use Rattle.ipfix_session.specs.Answers.{as_meaning}
use Rattle.ipfix_session.specs.Changing.{change_of}
use Rattle.ipfix_session.proofs.SessionSteps.{number_place, kept_stands}
use Rattle.ipfix_session.proofs.session.Session.keep.Goals as goal

pub fill-requires : goal.fill-requires
fill-requires c =
    let r = c.reading.inside in
    let ahead : Ahead = record { meaning = as_meaning r.read; change = change_of r.changes; next = r.next } in
    number_place c.self.inside.numbers c.self.inside.tables c.args.self.now ahead c.args.reading c.self.view_is c.reading.view_is c.requires.room

pub returns-clause-stands : goal.returns-clause-stands
returns-clause-stands c = λ older message stands is_reading.
    let r = c.reading.inside in
    let ahead : Ahead = record { meaning = as_meaning r.read; change = change_of r.changes; next = r.next } in
    kept_stands c.self.inside.numbers c.fill.new.self c.self.inside.tables c.settle.new.self older message ahead c.fill.ensures c.settle.ensures
    (subst (λ (s : KeptSession). SessionStands s.standing older) (sym c.self.view_is) stands)
    (subst (IsReadingOf older message) (sym c.reading.view_is) is_reading)
