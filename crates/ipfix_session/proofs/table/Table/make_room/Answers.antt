use Rattle.std.proofs.Common.{Option, sym, subst}
use Rattle.ipfix_template.specs.declared.template.Template.{Template}
use Rattle.ipfix_session.specs.TemplateMaps.{in_map}
use Rattle.ipfix_session.specs.Tables.{IsOneOfKind}
use Rattle.ipfix_session.proofs.MapSteps.{same_shown}
use Rattle.ipfix_session.proofs.TableSteps.{room_made}
use Rattle.ipfix_session.proofs.table.Table.make_room.Goals as goal

pub invariant_of-self : goal.invariant_of-self
invariant_of-self c = λ q.
    let s = c.self.inside in
    subst (λ (p : Option Template). IsOneOfKind p (in_map s.options q)) (sym (same_shown c.make_room.new.self s.plain c.make_room.ensures.unchanged q)) (c.self.invariant q)

pub invariant_of-self-in_err-make_room-2 : goal.invariant_of-self-in_err-make_room-2
invariant_of-self-in_err-make_room-2 c = λ q.
    let s = c.self.inside in
    subst (λ (p : Option Template). IsOneOfKind p (in_map c.make_room-2.new.self q)) (sym (same_shown c.make_room.new.self s.plain c.make_room.ensures.unchanged q))
    (subst (λ (o : Option Template). IsOneOfKind (in_map s.plain q) o) (sym (same_shown c.make_room-2.new.self s.options c.make_room-2.ensures.unchanged q)) (c.self.invariant q))

pub invariant_of-self-2 : goal.invariant_of-self-2
invariant_of-self-2 c = λ q.
    let s = c.self.inside in
    subst (λ (p : Option Template). IsOneOfKind p (in_map c.make_room-2.new.self q)) (sym (same_shown c.make_room.new.self s.plain c.make_room.ensures.unchanged q))
    (subst (λ (o : Option Template). IsOneOfKind (in_map s.plain q) o) (sym (same_shown c.make_room-2.new.self s.options c.make_room-2.ensures.unchanged q)) (c.self.invariant q))

pub returns-clause-room : goal.returns-clause-room
returns-clause-room c =
    let m = c.others.inside in
    room_made c.make_room.new.self c.make_room-2.new.self m.plain m.options c.args.others.now c.others.view_is c.in_ok-make_room.ensures.room c.in_ok-make_room-2.ensures.room
