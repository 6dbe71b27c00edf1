use Rattle.std.proofs.Common.{◌≡◌, List, ℕ, Ok, sym, ap, ◌∙◌, subst}
use Rattle.policy_text.specs.Parsing.{policy_of}
use Rattle.mediator_shares.specs.InForce.{InForce}
use Rattle.event_journal.specs.declared.entry.Entry.TheVariants.{Edit}
use Rattle.mediator_state.specs.declared.fault.Fault.{Fault}
use Rattle.mediator_state.specs.declared.engine.Engine.{Engine}
use Rattle.mediator_state.specs.Standing.{Stands, StandsSomewhere}
use Rattle.mediator_state.specs.Seen.{IsUntouched}
use Rattle.mediator_state.specs.Calls.{RefusesEdit}
use Rattle.mediator_state.proofs.CallLaws.{accepts_one, same_state, same_kept, err_gives, on_err, refused_edit, somewhere}
use Rattle.mediator_state.proofs.state.State.edit.Goals as goal

pub returns-in_err-policy-clause-unchanged : goal.returns-in_err-policy-clause-unchanged
returns-in_err-policy-clause-unchanged g c = on_err c.from_residual.result (same_state g.C.Chronicle.tells g.C.Chronicle.limits c.args.self.now)

pub returns-in_err-in_force-clause-unchanged : goal.returns-in_err-in_force-clause-unchanged
returns-in_err-in_force-clause-unchanged g c = on_err c.from_residual-in_err-in_force.result (same_state g.C.Chronicle.tells g.C.Chronicle.limits c.args.self.now)

pub returns-in_err-text-clause-unchanged : goal.returns-in_err-text-clause-unchanged
returns-in_err-text-clause-unchanged g c = on_err c.from_residual-in_err-text.result (same_state g.C.Chronicle.tells g.C.Chronicle.limits c.args.self.now)

pub returns-in_err-make_room-clause-unchanged : goal.returns-in_err-make_room-clause-unchanged
returns-in_err-make_room-clause-unchanged g c = on_err c.from_residual-in_err-make_room.result (same_kept g.C.Chronicle.tells g.C.Chronicle.limits c.args.self.now c.make_room.new.self.chronicle c.make_room.new.self.engine c.make_room.ensures.tells c.make_room.ensures.engine c.make_room.ensures.limits)

pub returns-in_err-make_room-clause-err : goal.returns-in_err-make_room-clause-err
returns-in_err-make_room-clause-err g c =
    err_gives c.from_residual-in_err-make_room.result c.from_residual-in_err-make_room.ensures
    (λ e is h s.
    subst (λ (why : Fault). RefusesEdit why (g.C.Chronicle.limits c.args.self.now.chronicle) h c.args.text.now) (sym is)
    (refused_edit c.in_err-make_room.field-0.0 (g.C.Chronicle.limits c.args.self.now.chronicle) (g.C.Chronicle.count c.args.self.now.chronicle) (g.C.Chronicle.octets c.args.self.now.chronicle) h c.args.text.now c.in_ok-text.text c.in_ok-policy.policy
    c.in_ok-text.ensures (g.met.C.Chronicle.counted c.args.self.now.chronicle h s.told) c.in_ok-policy.ensures.ok c.in_err-make_room.ensures.err))

pub returns-clause-ok : goal.returns-clause-ok
returns-clause-ok g c =
    let spelled : policy_of c.args.text.now ≡ Ok c.in_ok-in_force.in_force.policy = c.in_ok-policy.ensures.ok ∙ ap (λ (f : InForce). Ok f.policy) (sym c.in_ok-in_force.ensures) in
    record {
      goes_on = λ h s. record {
        policy = c.in_ok-policy.policy;
        spelled = c.in_ok-policy.ensures.ok;
        revision = c.put_in_force-revision.ensures.value h (subst (λ e. Stands e h) (sym c.make_room.ensures.engine) s.stands);
        accepts = accepts_one g.C.Chronicle.tells g.C.Chronicle.limits g.C.Chronicle.count g.C.Chronicle.octets c.args.self.now c.make_room.new.self c.push_reserved.new.self c.put_in_force-revision.new.self h (Edit c.in_ok-text.text) (Edit c.args.text.now)
            s (g.met.C.Chronicle.counted c.args.self.now.chronicle h s.told) c.make_room.ensures.limits c.make_room.ensures.count c.make_room.ensures.octets c.in_ok-make_room.ensures.room
            (ap (λ (n : List ℕ). Edit n) c.in_ok-text.ensures)
            c.make_room.ensures.tells c.push_reserved.ensures.tells c.make_room.ensures.engine (λ f st. c.put_in_force-revision.ensures.stands f c.args.text.now st spelled);
      };
      untouched = subst (λ (e : Engine _). IsUntouched e c.put_in_force-revision.new.self) c.make_room.ensures.engine c.put_in_force-revision.ensures.untouched;
      journaled = c.push_reserved.ensures.limits ∙ c.make_room.ensures.limits;
    }

pub put_in_force-revision-requires-clause-somewhere : goal.put_in_force-revision-requires-clause-somewhere
put_in_force-revision-requires-clause-somewhere g c =
    subst (λ (e : Engine _). StandsSomewhere e c.len-position.result) (sym c.make_room.ensures.engine)
    (somewhere g.C.Chronicle.tells c.args.self.now (g.C.Chronicle.count c.args.self.now.chronicle) (g.C.Chronicle.octets c.args.self.now.chronicle) c.len-position.result (g.met.C.Chronicle.counted c.args.self.now.chronicle) c.len-position.ensures.value c.requires.stands)
