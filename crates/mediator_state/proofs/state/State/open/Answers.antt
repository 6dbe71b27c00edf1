use Rattle.std.proofs.Common.{refl, subst, ◌∙◌}
use Rattle.event_journal.specs.declared.entry.Entry.TheVariants.{Open}
use Rattle.mediator_state.specs.declared.engine.Engine.{Engine}
use Rattle.mediator_state.specs.Seen.{IsSameEngine, IsUntouched}
use Rattle.mediator_state.proofs.CallLaws.{accepts_one, same_kept, same_roomed, on_err}
use Rattle.mediator_state.proofs.state.State.open.Goals as goal

pub returns-in_err-make_room-clause-unchanged : goal.returns-in_err-make_room-clause-unchanged
returns-in_err-make_room-clause-unchanged g c = on_err c.from_residual.result (same_kept g.C.Chronicle.tells g.C.Chronicle.limits c.args.self.now c.make_room.new.self.chronicle c.make_room.new.self.engine c.make_room.ensures.tells c.make_room.ensures.engine c.make_room.ensures.limits)

pub returns-in_err-open-clause-unchanged : goal.returns-in_err-open-clause-unchanged
returns-in_err-open-clause-unchanged g c =
    on_err c.from_residual-in_err-open.result
    (same_roomed g.C.Chronicle.tells g.C.Chronicle.limits c.args.self.now c.make_room.new.self.chronicle c.open.new.self c.make_room.ensures.tells
    (subst (λ (e : Engine _). IsSameEngine e c.open.new.self) c.make_room.ensures.engine c.in_err-open.ensures.err) c.make_room.ensures.limits)

pub returns-clause-ok : goal.returns-clause-ok
returns-clause-ok g c = record {
  goes_on = λ h s. record {
    number = c.next_session-session.ensures.next h s.stands;
    accepts = accepts_one g.C.Chronicle.tells g.C.Chronicle.limits g.C.Chronicle.count g.C.Chronicle.octets c.args.self.now c.make_room.new.self c.push_reserved.new.self c.open.new.self h (Open c.next_session-session.result.0) (Open c.next_session-session.result.0)
        s (g.met.C.Chronicle.counted c.args.self.now.chronicle h s.told) c.make_room.ensures.limits c.make_room.ensures.count c.make_room.ensures.octets c.in_ok-make_room.ensures.room
        refl c.make_room.ensures.tells c.push_reserved.ensures.tells c.make_room.ensures.engine c.in_ok-open.ensures.ok;
  };
  untouched = subst (λ (e : Engine _). IsUntouched e c.open.new.self) c.make_room.ensures.engine c.open.ensures.untouched;
  journaled = c.push_reserved.ensures.limits ∙ c.make_room.ensures.limits;
}
