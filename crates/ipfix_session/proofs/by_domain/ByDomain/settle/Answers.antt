use Rattle.std.proofs.Common.{sym}
use Rattle.ipfix_session.proofs.DomainSteps.{room_used, no_room}
use Rattle.ipfix_session.proofs.by_domain.ByDomain.settle.Goals as goal

pub make-requires : goal.make-requires
make-requires c = room_used c.args.domain c.args.self.now.tables.entries c.in-Some.table.now c.args.changes.defined.places (sym c.in-Some.ensures.value) c.requires

-- room was made, so that the domain has a table
pub returns-in_default : goal.returns-in_default
returns-in_default c =
    let es = c.args.self.now.tables.entries in
    absurd (no_room c.args.domain es c.args.changes.defined.places (sym c.in_default.ensures.value) c.requires)
