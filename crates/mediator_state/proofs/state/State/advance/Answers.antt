use Rattle.std.proofs.Common.{List, refl, sym, ◌∙◌, subst, arith}
use Rattle.event_journal.specs.declared.entry.Entry.{Entry}
use Rattle.mediator_state.specs.declared.engine.Engine.{Engine}
use Rattle.mediator_state.specs.declared.fault.Fault.{Fault}
use Rattle.mediator_state.specs.Seen.{IsSameEngine}
use Rattle.mediator_state.specs.Advancing.{IsClosingFor}
use Rattle.mediator_state.specs.Calls.{RefusesAdvanceAfter}
use Rattle.mediator_state.proofs.SameLaws.{untouched_same, untouched_after}
use Rattle.mediator_state.proofs.CallLaws.{full_where, room_where, same_state, same_roomed, err_gives, on_err}
use Rattle.mediator_state.proofs.AdvanceCalls.{ahead_of, ahead_memory, closing_held, closing_found, closing_full, closing_audit, closing_for, advanced}
use Rattle.mediator_state.proofs.state.State.advance.Goals as goal

pub returns-then-t-last-clause-unchanged : goal.returns-then-t-last-clause-unchanged
returns-then-t-last-clause-unchanged g c = same_state g.C.Chronicle.tells g.C.Chronicle.limits c.args.self.now

pub returns-in_err-closing-clause-unchanged : goal.returns-in_err-closing-clause-unchanged
returns-in_err-closing-clause-unchanged g c = on_err c.from_residual.result (same_state g.C.Chronicle.tells g.C.Chronicle.limits c.args.self.now)

pub returns-in_err-entries-clause-unchanged : goal.returns-in_err-entries-clause-unchanged
returns-in_err-entries-clause-unchanged g c = on_err c.from_residual-in_err-entries.result (same_state g.C.Chronicle.tells g.C.Chronicle.limits c.args.self.now)

pub returns-then-not-room-clause-unchanged : goal.returns-then-not-room-clause-unchanged
returns-then-not-room-clause-unchanged g c = same_state g.C.Chronicle.tells g.C.Chronicle.limits c.args.self.now

pub returns-in_err-closing-clause-err : goal.returns-in_err-closing-clause-err
returns-in_err-closing-clause-err g c =
    err_gives c.from_residual.result c.from_residual.ensures
    (λ e is h s. ahead_memory e (g.C.Chronicle.limits c.args.self.now.chronicle) c.args.self.now.engine h c.args.t is
    (ahead_of c.args.self.now.engine h c.args.t c.clock-last.result s.stands c.clock-last.ensures (omega (arith, c.if-t-last.false))))

pub returns-in_err-entries-clause-err : goal.returns-in_err-entries-clause-err
returns-in_err-entries-clause-err g c =
    err_gives c.from_residual-in_err-entries.result c.from_residual-in_err-entries.ensures
    (λ e is h s. ahead_memory e (g.C.Chronicle.limits c.args.self.now.chronicle) c.args.self.now.engine h c.args.t is
    (ahead_of c.args.self.now.engine h c.args.t c.clock-last.result s.stands c.clock-last.ensures (omega (arith, c.if-t-last.false))))

pub returns-then-not-room-clause-err : goal.returns-then-not-room-clause-err
returns-then-not-room-clause-err g c = λ h s.
    closing_full (g.C.Chronicle.limits c.args.self.now.chronicle) (g.C.Chronicle.count c.args.self.now.chronicle) (g.C.Chronicle.octets c.args.self.now.chronicle) c.args.self.now.engine h c.args.t c.in_ok-closing.closing c.in_ok-entries.entries.items (g.met.C.Chronicle.counted c.args.self.now.chronicle h s.told)
    (closing_found c.args.self.now.engine h c.args.t c.in_ok-closing.closing c.in_ok-entries.entries.items c.deref.result.now (ahead_of c.args.self.now.engine h c.args.t c.clock-last.result s.stands c.clock-last.ensures (omega (arith, c.if-t-last.false))) (c.in_ok-closing.ensures h s.stands) c.in_ok-entries.ensures c.deref.ensures.value)
    (full_where c.room.result (g.C.Chronicle.limits c.args.self.now.chronicle) (g.C.Chronicle.count c.args.self.now.chronicle) (g.C.Chronicle.octets c.args.self.now.chronicle) c.deref-2.result.now c.in_ok-entries.entries.items c.room.ensures c.deref-2.ensures.value c.if-not-room.true)

pub returns-in_err-make_room_to_close-clause-unchanged : goal.returns-in_err-make_room_to_close-clause-unchanged
returns-in_err-make_room_to_close-clause-unchanged g c = on_err c.from_residual-in_err-make_room_to_close.result (same_roomed g.C.Chronicle.tells g.C.Chronicle.limits c.args.self.now c.args.self.now.chronicle c.make_room_to_close.new.self (λ h told. told) c.make_room_to_close.ensures.unchanged refl)

pub returns-in_err-make_room_to_close-clause-err : goal.returns-in_err-make_room_to_close-clause-err
returns-in_err-make_room_to_close-clause-err g c =
    err_gives c.from_residual-in_err-make_room_to_close.result c.from_residual-in_err-make_room_to_close.ensures
    (λ e is h s.
    subst (λ (why : Fault). RefusesAdvanceAfter why (g.C.Chronicle.limits c.args.self.now.chronicle) c.args.self.now.engine h c.args.t) (sym is)
    (closing_audit c.in_err-make_room_to_close.field-0.0 (g.C.Chronicle.limits c.args.self.now.chronicle) (g.C.Chronicle.count c.args.self.now.chronicle) (g.C.Chronicle.octets c.args.self.now.chronicle) c.args.self.now.engine h c.args.t c.in_ok-closing.closing c.in_ok-entries.entries.items (g.met.C.Chronicle.counted c.args.self.now.chronicle h s.told)
    (closing_found c.args.self.now.engine h c.args.t c.in_ok-closing.closing c.in_ok-entries.entries.items c.deref.result.now (ahead_of c.args.self.now.engine h c.args.t c.clock-last.result s.stands c.clock-last.ensures (omega (arith, c.if-t-last.false))) (c.in_ok-closing.ensures h s.stands) c.in_ok-entries.ensures c.deref.ensures.value)
    (room_where c.room.result (g.C.Chronicle.limits c.args.self.now.chronicle) (g.C.Chronicle.count c.args.self.now.chronicle) (g.C.Chronicle.octets c.args.self.now.chronicle) c.deref-2.result.now c.in_ok-entries.entries.items c.room.ensures c.deref-2.ensures.value c.if-not-room.false)
    c.in_err-make_room_to_close.ensures.err))

pub returns-in_err-reserve-clause-unchanged : goal.returns-in_err-reserve-clause-unchanged
returns-in_err-reserve-clause-unchanged g c = on_err c.from_residual-in_err-reserve.result (same_roomed g.C.Chronicle.tells g.C.Chronicle.limits c.args.self.now c.reserve.new.self c.make_room_to_close.new.self c.reserve.ensures.tells c.make_room_to_close.ensures.unchanged c.reserve.ensures.limits)

pub returns-in_err-reserve-clause-err : goal.returns-in_err-reserve-clause-err
returns-in_err-reserve-clause-err g c =
    err_gives c.from_residual-in_err-reserve.result c.from_residual-in_err-reserve.ensures
    (λ e is h s. ahead_memory e (g.C.Chronicle.limits c.args.self.now.chronicle) c.args.self.now.engine h c.args.t is
    (ahead_of c.args.self.now.engine h c.args.t c.clock-last.result s.stands c.clock-last.ensures (omega (arith, c.if-t-last.false))))

pub advance-requires-clause-planned : goal.advance-requires-clause-planned
advance-requires-clause-planned g c =
    let h : List Entry = c.requires.stands.history in
    let s = c.requires.stands.stands in
    let counts = g.met.C.Chronicle.counted c.args.self.now.chronicle h s.told in
    let counted = sym (c.len-position.ensures.value ∙ counts.entries) in
    subst (λ (e : Engine _). IsClosingFor e c.len-position.result c.args.t c.in_ok-closing.closing) (sym c.append.ensures.engine)
    (closing_for c.args.self.now.engine c.make_room_to_close.new.self h c.args.t c.len-position.result c.in_ok-closing.closing c.make_room_to_close.ensures.unchanged s.stands counted
    (omega (arith, c.len-position.ensures.within, c.len-position.ensures.limits.most_entries)) (c.in_ok-closing.ensures h s.stands))

pub returns-clause-ok : goal.returns-clause-ok
returns-clause-ok g c = record {
  goes_on = λ h s.
      advanced g.C.Chronicle.tells g.C.Chronicle.limits c.args.self.now (record { chronicle = c.append.new.self.chronicle; engine = c.advance.new.self }) c.append.new.self.engine (g.C.Chronicle.count c.args.self.now.chronicle) (g.C.Chronicle.octets c.args.self.now.chronicle) h c.args.t c.in_ok-closing.closing c.in_ok-entries.entries.items c.len-position.result
      s (g.met.C.Chronicle.counted c.args.self.now.chronicle h s.told) c.len-position.ensures.value
      (closing_found c.args.self.now.engine h c.args.t c.in_ok-closing.closing c.in_ok-entries.entries.items c.deref.result.now (ahead_of c.args.self.now.engine h c.args.t c.clock-last.result s.stands c.clock-last.ensures (omega (arith, c.if-t-last.false))) (c.in_ok-closing.ensures h s.stands) c.in_ok-entries.ensures c.deref.ensures.value)
      (room_where c.room.result (g.C.Chronicle.limits c.args.self.now.chronicle) (g.C.Chronicle.count c.args.self.now.chronicle) (g.C.Chronicle.octets c.args.self.now.chronicle) c.deref-2.result.now c.in_ok-entries.entries.items c.room.ensures c.deref-2.ensures.value c.if-not-room.false)
      (subst (λ (e : Engine _). IsSameEngine c.args.self.now.engine e) (sym c.append.ensures.engine) c.make_room_to_close.ensures.unchanged)
      (closing_held c.args.self.now.engine c.make_room_to_close.new.self h c.args.t c.in_ok-closing.closing c.in_ok-entries.entries.items c.make_room_to_close.ensures.unchanged s.stands
      (closing_found c.args.self.now.engine h c.args.t c.in_ok-closing.closing c.in_ok-entries.entries.items c.deref.result.now (ahead_of c.args.self.now.engine h c.args.t c.clock-last.result s.stands c.clock-last.ensures (omega (arith, c.if-t-last.false))) (c.in_ok-closing.ensures h s.stands) c.in_ok-entries.ensures c.deref.ensures.value)
      c.in_ok-make_room_to_close.ensures.ok)
      (c.append.ensures.tells h (c.reserve.ensures.tells h s.told)) c.advance.ensures.stands;
  untouched = untouched_after c.args.self.now.engine c.append.new.self.engine c.advance.new.self
      (untouched_same c.args.self.now.engine c.append.new.self.engine (subst (λ (e : Engine _). IsSameEngine c.args.self.now.engine e) (sym c.append.ensures.engine) c.make_room_to_close.ensures.unchanged)) c.advance.ensures.untouched;
  journaled = c.append.ensures.limits ∙ c.reserve.ensures.limits;
}
