use Rattle.std.proofs.Common.{List, ℕ, sym, ap, ◌∙◌, subst}
use Rattle.event_journal.specs.declared.entry.Entry.TheVariants.{Subscribe}
use Rattle.mediator_state.specs.declared.fault.Fault.{Fault}
use Rattle.mediator_state.specs.declared.engine.Engine.{Engine}
use Rattle.mediator_state.specs.Seen.{IsSameEngine, IsUntouched}
use Rattle.mediator_state.specs.Calls.{RefusesSubscribe}
use Rattle.mediator_state.proofs.CallLaws.{refused_memory, refused_subscribe, accepts_one, same_state, same_kept, same_roomed, err_gives, on_err}
use Rattle.mediator_state.proofs.state.State.subscribe.Goals as goal

pub returns-then-not-is_name-clause-unchanged : goal.returns-then-not-is_name-clause-unchanged
returns-then-not-is_name-clause-unchanged g c = same_state g.C.Chronicle.tells g.C.Chronicle.limits c.args.self.now

pub returns-in-Some-clause-unchanged : goal.returns-in-Some-clause-unchanged
returns-in-Some-clause-unchanged g c = same_state g.C.Chronicle.tells g.C.Chronicle.limits c.args.self.now

pub returns-in_err-copy-clause-unchanged : goal.returns-in_err-copy-clause-unchanged
returns-in_err-copy-clause-unchanged g c = on_err c.from_residual.result (same_state g.C.Chronicle.tells g.C.Chronicle.limits c.args.self.now)

pub returns-in_err-make_room-clause-unchanged : goal.returns-in_err-make_room-clause-unchanged
returns-in_err-make_room-clause-unchanged g c = on_err c.from_residual-in_err-make_room.result (same_kept g.C.Chronicle.tells g.C.Chronicle.limits c.args.self.now c.make_room.new.self.chronicle c.make_room.new.self.engine c.make_room.ensures.tells c.make_room.ensures.engine c.make_room.ensures.limits)

pub returns-in_err-copy-clause-err : goal.returns-in_err-copy-clause-err
returns-in_err-copy-clause-err g c =
    err_gives c.from_residual.result c.from_residual.ensures
    (λ e is h s. refused_memory e (g.C.Chronicle.limits c.args.self.now.chronicle) h c.args.name.now is (sym c.is_name.ensures ∙ c.if-not-is_name.false) (c.in_default.ensures.none h s.stands))

pub returns-in_err-make_room-clause-err : goal.returns-in_err-make_room-clause-err
returns-in_err-make_room-clause-err g c =
    err_gives c.from_residual-in_err-make_room.result c.from_residual-in_err-make_room.ensures
    (λ e is h s. subst (λ (why : Fault). RefusesSubscribe why (g.C.Chronicle.limits c.args.self.now.chronicle) h c.args.name.now) (sym is)
    (refused_subscribe c.in_err-make_room.field-0.0 (g.C.Chronicle.limits c.args.self.now.chronicle) (g.C.Chronicle.count c.args.self.now.chronicle) (g.C.Chronicle.octets c.args.self.now.chronicle) h c.args.name.now c.next_subscription-sub.result.0 c.in_ok-copy.copy
    (c.next_subscription-sub.ensures.next h s.stands) (c.in_ok-copy.ensures ∙ c.as_bytes.ensures.value) (g.met.C.Chronicle.counted c.args.self.now.chronicle h s.told) (sym c.is_name.ensures ∙ c.if-not-is_name.false) (c.in_default.ensures.none h s.stands) c.in_err-make_room.ensures.err))

pub returns-in_err-subscribe-clause-err : goal.returns-in_err-subscribe-clause-err
returns-in_err-subscribe-clause-err g c =
    err_gives c.from_residual-in_err-subscribe.result c.from_residual-in_err-subscribe.ensures
    (λ e is h s. refused_memory e (g.C.Chronicle.limits c.args.self.now.chronicle) h c.args.name.now is (sym c.is_name.ensures ∙ c.if-not-is_name.false) (c.in_default.ensures.none h s.stands))

pub returns-clause-ok : goal.returns-clause-ok
returns-clause-ok g c = record {
  goes_on = λ h s. record {
    named = sym c.is_name.ensures ∙ c.if-not-is_name.false;
    free = c.in_default.ensures.none h s.stands;
    number = c.next_subscription-sub.ensures.next h s.stands;
    accepts = accepts_one g.C.Chronicle.tells g.C.Chronicle.limits g.C.Chronicle.count g.C.Chronicle.octets c.args.self.now c.make_room.new.self c.push_reserved.new.self c.subscribe.new.self h (Subscribe c.next_subscription-sub.result.0 c.in_ok-copy.copy) (Subscribe c.next_subscription-sub.result.0 c.args.name.now)
        s (g.met.C.Chronicle.counted c.args.self.now.chronicle h s.told) c.make_room.ensures.limits c.make_room.ensures.count c.make_room.ensures.octets c.in_ok-make_room.ensures.room
        (ap (λ (n : List ℕ). Subscribe c.next_subscription-sub.result.0 n) (c.in_ok-copy.ensures ∙ c.as_bytes.ensures.value))
        c.make_room.ensures.tells c.push_reserved.ensures.tells c.make_room.ensures.engine c.in_ok-subscribe.ensures.ok;
  };
  untouched = subst (λ (e : Engine _). IsUntouched e c.subscribe.new.self) c.make_room.ensures.engine c.subscribe.ensures.untouched;
  journaled = c.push_reserved.ensures.limits ∙ c.make_room.ensures.limits;
}

pub returns-in_err-subscribe-clause-unchanged : goal.returns-in_err-subscribe-clause-unchanged
returns-in_err-subscribe-clause-unchanged g c =
    on_err c.from_residual-in_err-subscribe.result
    (same_roomed g.C.Chronicle.tells g.C.Chronicle.limits c.args.self.now c.make_room.new.self.chronicle c.subscribe.new.self c.make_room.ensures.tells
    (subst (λ (e : Engine _). IsSameEngine e c.subscribe.new.self) c.make_room.ensures.engine c.in_err-subscribe.ensures.err) c.make_room.ensures.limits)
