use Rattle.std.proofs.Common.{List, length, ◌+◌, refl, sym, ◌∙◌, subst, arith}
use Rattle.sequences.specs.Octets.{AreOctets}
use Rattle.event_journal.specs.declared.entry.Entry.{Entry}
use Rattle.mediator_history.specs.Sessions.{messages_of}
use Rattle.mediator_state.specs.declared.engine.Engine.{Engine}
use Rattle.mediator_state.specs.declared.fault.Fault.{Fault}
use Rattle.mediator_state.specs.Seen.{IsSameEngine}
use Rattle.mediator_state.specs.Accepting.{IsPlannedFor, LacksAudit}
use Rattle.mediator_state.specs.Calls.{RefusesReceiveAfter}
use Rattle.mediator_state.proofs.Judging.{means_few}
use Rattle.mediator_state.proofs.SameLaws.{untouched_same, untouched_after}
use Rattle.mediator_state.proofs.CallLaws.{found, next_of, next_memory, message_held, refused_full, refused_audit, full_where, room_where, planned_for, received, same_kept, same_roomed, err_gives, on_err}
use Rattle.mediator_state.proofs.state.State.take_in.Goals as goal

pub returns-in_err-plan-clause-unchanged : goal.returns-in_err-plan-clause-unchanged
returns-in_err-plan-clause-unchanged g c = on_err c.from_residual.result (same_kept g.C.Chronicle.tells g.C.Chronicle.limits c.args.self.now c.args.self.now.chronicle c.plan.new.self (λ h told. told) c.plan.ensures.unchanged refl)

pub returns-in_err-entries-clause-unchanged : goal.returns-in_err-entries-clause-unchanged
returns-in_err-entries-clause-unchanged g c = on_err c.from_residual-in_err-entries.result (same_kept g.C.Chronicle.tells g.C.Chronicle.limits c.args.self.now c.args.self.now.chronicle c.plan.new.self (λ h told. told) c.plan.ensures.unchanged refl)

pub returns-then-not-room-clause-unchanged : goal.returns-then-not-room-clause-unchanged
returns-then-not-room-clause-unchanged g c = same_kept g.C.Chronicle.tells g.C.Chronicle.limits c.args.self.now c.args.self.now.chronicle c.plan.new.self (λ h told. told) c.plan.ensures.unchanged refl

pub returns-then-not-room-clause-err : goal.returns-then-not-room-clause-err
returns-then-not-room-clause-err g c = λ h s.
    let counts = g.met.C.Chronicle.counted c.args.self.now.chronicle h s.told in
    refused_full (g.C.Chronicle.limits c.args.self.now.chronicle) (g.C.Chronicle.count c.args.self.now.chronicle) (g.C.Chronicle.octets c.args.self.now.chronicle) c.args.self.now.engine h c.args.session.0 c.args.number c.args.message c.in_ok-plan.plan c.in_ok-entries.entries.items counts
    (found c.args.self.now.engine h c.args.session.0 c.args.number c.args.message c.in_ok-plan.plan c.in_ok-entries.entries.items c.deref-2.result.now (c.in_ok-plan.ensures.ok h c.args.number c.args.message s.stands (sym (c.len-position.ensures.value ∙ counts.entries)) (c.requires.read h s)) c.in_ok-plan.ensures.session c.in_ok-entries.ensures c.deref-2.ensures.value)
    (full_where c.room.result (g.C.Chronicle.limits c.args.self.now.chronicle) (g.C.Chronicle.count c.args.self.now.chronicle) (g.C.Chronicle.octets c.args.self.now.chronicle) c.deref-3.result.now c.in_ok-entries.entries.items c.room.ensures c.deref-3.ensures.value c.if-not-room.true)

pub returns-in_err-entries-clause-err : goal.returns-in_err-entries-clause-err
returns-in_err-entries-clause-err g c =
    err_gives c.from_residual-in_err-entries.result c.from_residual-in_err-entries.ensures
    (λ e is h s. next_memory e (g.C.Chronicle.limits c.args.self.now.chronicle) c.args.self.now.engine h c.args.session.0 c.args.number c.args.message is
    (next_of c.args.self.now.engine h c.args.session.0 c.args.number c.args.message c.in_ok-plan.plan c.in_ok-plan.ensures.session
    (c.in_ok-plan.ensures.ok h c.args.number c.args.message s.stands (sym (c.len-position.ensures.value ∙ (g.met.C.Chronicle.counted c.args.self.now.chronicle h s.told).entries)) (c.requires.read h s))))

pub returns-in_err-reserved-clause-unchanged : goal.returns-in_err-reserved-clause-unchanged
returns-in_err-reserved-clause-unchanged g c = on_err c.from_residual-in_err-reserved.result (same_roomed g.C.Chronicle.tells g.C.Chronicle.limits c.args.self.now c.args.self.now.chronicle c.make_room.new.self (λ h told. told) (subst (λ (e : Engine _). IsSameEngine e c.make_room.new.self) c.plan.ensures.unchanged c.make_room.ensures.unchanged) refl)

pub returns-in_err-reserved-clause-err : goal.returns-in_err-reserved-clause-err
returns-in_err-reserved-clause-err g c =
    err_gives c.from_residual-in_err-reserved.result c.from_residual-in_err-reserved.ensures
    (λ e is h s.
    let counts = g.met.C.Chronicle.counted c.args.self.now.chronicle h s.told in
    subst (λ (why : Fault). RefusesReceiveAfter why (g.C.Chronicle.limits c.args.self.now.chronicle) c.args.self.now.engine h c.args.session.0 c.args.number c.args.message) (sym is)
    (refused_audit c.in_err-reserved.field-0.0 (g.C.Chronicle.limits c.args.self.now.chronicle) (g.C.Chronicle.count c.args.self.now.chronicle) (g.C.Chronicle.octets c.args.self.now.chronicle) c.args.self.now.engine h c.args.session.0 c.args.number c.args.message c.in_ok-plan.plan c.in_ok-entries.entries.items counts
    (found c.args.self.now.engine h c.args.session.0 c.args.number c.args.message c.in_ok-plan.plan c.in_ok-entries.entries.items c.deref-2.result.now (c.in_ok-plan.ensures.ok h c.args.number c.args.message s.stands (sym (c.len-position.ensures.value ∙ counts.entries)) (c.requires.read h s)) c.in_ok-plan.ensures.session c.in_ok-entries.ensures c.deref-2.ensures.value)
    (room_where c.room.result (g.C.Chronicle.limits c.args.self.now.chronicle) (g.C.Chronicle.count c.args.self.now.chronicle) (g.C.Chronicle.octets c.args.self.now.chronicle) c.deref-3.result.now c.in_ok-entries.entries.items c.room.ensures c.deref-3.ensures.value c.if-not-room.false)
    (subst (λ (e : Engine _). LacksAudit c.in_err-reserved.field-0.0 e.audit (length c.in_ok-plan.plan.cuts.items + c.in_ok-plan.plan.notes.count)) c.plan.ensures.unchanged c.in_err-reserved.ensures.err)))

pub returns-in_err-reserve-clause-unchanged : goal.returns-in_err-reserve-clause-unchanged
returns-in_err-reserve-clause-unchanged g c = on_err c.from_residual-in_err-reserve.result (same_roomed g.C.Chronicle.tells g.C.Chronicle.limits c.args.self.now c.reserve.new.self c.make_room.new.self c.reserve.ensures.tells (subst (λ (e : Engine _). IsSameEngine e c.make_room.new.self) c.plan.ensures.unchanged c.make_room.ensures.unchanged) c.reserve.ensures.limits)

pub returns-in_err-reserve-clause-err : goal.returns-in_err-reserve-clause-err
returns-in_err-reserve-clause-err g c =
    err_gives c.from_residual-in_err-reserve.result c.from_residual-in_err-reserve.ensures
    (λ e is h s. next_memory e (g.C.Chronicle.limits c.args.self.now.chronicle) c.args.self.now.engine h c.args.session.0 c.args.number c.args.message is
    (next_of c.args.self.now.engine h c.args.session.0 c.args.number c.args.message c.in_ok-plan.plan c.in_ok-plan.ensures.session
    (c.in_ok-plan.ensures.ok h c.args.number c.args.message s.stands (sym (c.len-position.ensures.value ∙ (g.met.C.Chronicle.counted c.args.self.now.chronicle h s.told).entries)) (c.requires.read h s))))

pub plan-requires-clause-few : goal.plan-requires-clause-few
plan-requires-clause-few g c =
    omega (
      arith,
      means_few (messages_of c.args.session.0 c.requires.stands.history) c.args.message c.args.reading.meaning (subst AreOctets c.deref.ensures c.octets_for_proof.ensures)
          (c.requires.read c.requires.stands.history c.requires.stands.stands).read.means,
    )

pub returns-in_err-plan-clause-err : goal.returns-in_err-plan-clause-err
returns-in_err-plan-clause-err g c =
    err_gives c.from_residual.result c.from_residual.ensures
    (λ e is h s. next_memory e (g.C.Chronicle.limits c.args.self.now.chronicle) c.args.self.now.engine h c.args.session.0 c.args.number c.args.message is (c.requires.read h s).next)

pub accept-requires-clause-planned : goal.accept-requires-clause-planned
accept-requires-clause-planned g c =
    let h : List Entry = c.requires.stands.history in
    let s = c.requires.stands.stands in
    let counts = g.met.C.Chronicle.counted c.args.self.now.chronicle h s.told in
    let counted = sym (c.len-position.ensures.value ∙ counts.entries) in
    subst (λ (e : Engine _). IsPlannedFor e c.len-position.result c.in_ok-plan.plan) (sym c.append.ensures.engine)
    (planned_for c.args.self.now.engine c.make_room.new.self h c.args.number c.args.message c.len-position.result c.in_ok-plan.plan (subst (λ (e : Engine _). IsSameEngine e c.make_room.new.self) c.plan.ensures.unchanged c.make_room.ensures.unchanged) s.stands counted
    (omega (arith, c.len-position.ensures.within, c.len-position.ensures.limits.most_entries)) (c.in_ok-plan.ensures.ok h c.args.number c.args.message s.stands counted (c.requires.read h s)))

pub returns-clause-ok : goal.returns-clause-ok
returns-clause-ok g c = record {
  goes_on = λ h s.
      let counts = g.met.C.Chronicle.counted c.args.self.now.chronicle h s.told in
      received g.C.Chronicle.tells g.C.Chronicle.limits c.args.self.now (record { chronicle = c.append.new.self.chronicle; engine = c.accept.new.self }) c.append.new.self.engine (g.C.Chronicle.count c.args.self.now.chronicle) (g.C.Chronicle.octets c.args.self.now.chronicle) h c.args.session.0 c.args.number c.args.message c.in_ok-plan.plan c.in_ok-entries.entries.items c.accept.result c.len-position.result
      s counts c.len-position.ensures.value
      (found c.args.self.now.engine h c.args.session.0 c.args.number c.args.message c.in_ok-plan.plan c.in_ok-entries.entries.items c.deref-2.result.now (c.in_ok-plan.ensures.ok h c.args.number c.args.message s.stands (sym (c.len-position.ensures.value ∙ counts.entries)) (c.requires.read h s)) c.in_ok-plan.ensures.session c.in_ok-entries.ensures c.deref-2.ensures.value)
      (room_where c.room.result (g.C.Chronicle.limits c.args.self.now.chronicle) (g.C.Chronicle.count c.args.self.now.chronicle) (g.C.Chronicle.octets c.args.self.now.chronicle) c.deref-3.result.now c.in_ok-entries.entries.items c.room.ensures c.deref-3.ensures.value c.if-not-room.false)
      (subst (λ (e : Engine _). IsSameEngine c.args.self.now.engine e) (sym c.append.ensures.engine) (subst (λ (e : Engine _). IsSameEngine e c.make_room.new.self) c.plan.ensures.unchanged c.make_room.ensures.unchanged))
      (message_held c.args.self.now.engine c.make_room.new.self h c.args.session.0 c.args.number c.args.message c.in_ok-plan.plan c.in_ok-entries.entries.items _ (subst (λ (e : Engine _). IsSameEngine e c.make_room.new.self) c.plan.ensures.unchanged c.make_room.ensures.unchanged) s.stands
      (found c.args.self.now.engine h c.args.session.0 c.args.number c.args.message c.in_ok-plan.plan c.in_ok-entries.entries.items c.deref-2.result.now (c.in_ok-plan.ensures.ok h c.args.number c.args.message s.stands (sym (c.len-position.ensures.value ∙ counts.entries)) (c.requires.read h s)) c.in_ok-plan.ensures.session c.in_ok-entries.ensures c.deref-2.ensures.value)
      c.in_ok-reserved.ensures.ok)
      (c.append.ensures.tells h (c.reserve.ensures.tells h s.told)) c.accept.ensures.stands c.accept.ensures.receipt;
  untouched = untouched_after c.args.self.now.engine c.append.new.self.engine c.accept.new.self
      (untouched_same c.args.self.now.engine c.append.new.self.engine (subst (λ (e : Engine _). IsSameEngine c.args.self.now.engine e) (sym c.append.ensures.engine) (subst (λ (e : Engine _). IsSameEngine e c.make_room.new.self) c.plan.ensures.unchanged c.make_room.ensures.unchanged))) c.accept.ensures.untouched;
  journaled = c.append.ensures.limits ∙ c.reserve.ensures.limits;
}
