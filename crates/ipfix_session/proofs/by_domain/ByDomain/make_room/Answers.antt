use Rattle.std.proofs.Common.{◌≡◌, ℕ, Option, None, is_some, refl, sym, ap, ◌∙◌, subst}
use Rattle.std.specs.Prelude.{IsSome}
use Rattle.std.specs.Ordering.{nat_cmp}
use Rattle.std.specs.BTreeMap.{BTreeMap, is_at}
use Rattle.ipfix_session.specs.Keeping.{at_key}
use Rattle.ipfix_session.specs.Places.{Tabled, shown_in}
use Rattle.ipfix_session.specs.Domains.{some_of, some_templates}
use Rattle.ipfix_session.proofs.PlaceSteps.{shown-room, shown-set}
use Rattle.ipfix_session.proofs.DomainSteps.{room_there, room_there_or}
use Rattle.ipfix_session.proofs.by_domain.ByDomain.make_room.Goals as goal

pub returns-in-Some-clause-unchanged : goal.returns-in-Some-clause-unchanged
returns-in-Some-clause-unchanged c =
    let old : Tabled = c.in-Some.table.now in
    let new : Tabled = c.make_room.new.templates in
    let same : some_templates new ≡ some_templates old = ap some_of c.make_room.ensures.unchanged in
    ap (shown_in some_templates) (c.get_mut.follows.holds new).0 ∙ shown-set some_templates (is_at (nat_cmp c.args.domain)) c.args.self.now.tables.entries old new (sym c.in-Some.ensures.value) same

pub returns-in-Some-clause-room : goal.returns-in-Some-clause-room
returns-in-Some-clause-room c =
    let new : Tabled = c.make_room.new.templates in
    let there : IsSome (at_key c.args.domain c.args.self.now.tables.entries) = subst (λ (o : Option Tabled). IsSome o) c.in-Some.ensures.value refl in
    room_there_or c.make_room.result c.args.domain (c.get_mut.follows.lender new).entries new c.args.changes.now.defined.places ((c.get_mut.follows.holds new).3 there).1 c.make_room.ensures.room

pub returns-clause-unchanged : goal.returns-clause-unchanged
returns-clause-unchanged c =
    let place : Tabled = c.make_room-2.new.templates in
    let es = c.get_mut.follows.lender-at-none.entries in
    let nothing : some_templates place ≡ None = ap some_of (c.make_room-2.ensures.unchanged ∙ c.new-table.ensures) in
    let none : at_key c.args.domain es ≡ None = ap (λ (m : BTreeMap ℕ Tabled). at_key c.args.domain m.entries) c.get_mut.follows.holds-at-none ∙ sym c.in_default.ensures.value in
    ap (shown_in some_templates) c.in_ok-insert.ensures.entries ∙ shown-room some_templates c.args.domain place es nothing (ap (λ (o : Option Tabled). is_some o) none)
    ∙ ap (λ (m : BTreeMap ℕ Tabled). shown_in some_templates m.entries) c.get_mut.follows.holds-at-none

pub returns-clause-room : goal.returns-clause-room
returns-clause-room c =
    let place : Tabled = c.make_room-2.new.templates in
    room_there c.args.domain c.insert.new.self.entries place c.args.changes.now.defined.places c.in_ok-insert.ensures.updates.1 c.in_ok-make_room.ensures.room
