use Rattle.std.proofs.Common.{refl, sym, subst, ◌∙◌}
use Rattle.event_journal.specs.declared.entry.Entry.TheVariants.{Close}
use Rattle.mediator_state.specs.declared.engine.Engine.{Engine}
use Rattle.mediator_state.specs.Seen.{IsUntouched}
use Rattle.mediator_state.proofs.CallLaws.{accepts_one, same_state, same_kept, on_err}
use Rattle.mediator_state.proofs.state.State.close.Goals as goal

pub returns-then-not-is_open-clause-unchanged : goal.returns-then-not-is_open-clause-unchanged
returns-then-not-is_open-clause-unchanged g c = same_state g.C.Chronicle.tells g.C.Chronicle.limits c.args.self.now

pub returns-in_err-make_room-clause-unchanged : goal.returns-in_err-make_room-clause-unchanged
returns-in_err-make_room-clause-unchanged g c = on_err c.from_residual.result (same_kept g.C.Chronicle.tells g.C.Chronicle.limits c.args.self.now c.make_room.new.self.chronicle c.make_room.new.self.engine c.make_room.ensures.tells c.make_room.ensures.engine c.make_room.ensures.limits)

pub returns-clause-ok : goal.returns-clause-ok
returns-clause-ok g c = record {
  goes_on = λ h s. record {
    opened = sym (c.is_open.ensures h s.stands) ∙ c.if-not-is_open.false;
    accepts = accepts_one g.C.Chronicle.tells g.C.Chronicle.limits g.C.Chronicle.count g.C.Chronicle.octets c.args.self.now c.make_room.new.self c.push_reserved.new.self c.close.new.self h (Close c.args.session.0) (Close c.args.session.0)
        s (g.met.C.Chronicle.counted c.args.self.now.chronicle h s.told) c.make_room.ensures.limits c.make_room.ensures.count c.make_room.ensures.octets c.in_ok-make_room.ensures.room
        refl c.make_room.ensures.tells c.push_reserved.ensures.tells c.make_room.ensures.engine c.close.ensures.stands;
  };
  untouched = subst (λ (e : Engine _). IsUntouched e c.close.new.self) c.make_room.ensures.engine c.close.ensures.untouched;
  journaled = c.push_reserved.ensures.limits ∙ c.make_room.ensures.limits;
}
