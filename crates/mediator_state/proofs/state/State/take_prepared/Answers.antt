use Rattle.std.proofs.Common.{◌≡◌, ℕ, List, sym, ◌∙◌, subst}
use Rattle.mediator_state.specs.Calls.{Proceeds, ReceivesAfter, RefusesReceiveAfter}
use Rattle.mediator_state.specs.Planning.{IsNextReading}
use Rattle.mediator_state.proofs.CallLaws.{if_ok_gives, if_err_gives, refused_as_prepared, same_state, on_err}
use Rattle.mediator_state.proofs.state.State.take_prepared.Goals as goal

pub returns-in_err-reading-clause-unchanged : goal.returns-in_err-reading-clause-unchanged
returns-in_err-reading-clause-unchanged g c = on_err c.from_residual.result (same_state g.C.Chronicle.tells g.C.Chronicle.limits c.args.self.now)

pub returns-in_err-message-clause-unchanged : goal.returns-in_err-message-clause-unchanged
returns-in_err-message-clause-unchanged g c = on_err c.from_residual-in_err-message.result (same_state g.C.Chronicle.tells g.C.Chronicle.limits c.args.self.now)

pub returns-clause-ok : goal.returns-clause-ok
returns-clause-ok g c = if_ok_gives c.take_in.result c.take_in.ensures.ok
    (λ r got.
    let same : c.in_ok-message.message ≡ c.args.prepared.now.message = c.in_ok-message.ensures.cases ∙ c.message.ensures.value in
    subst (λ (m : List ℕ). Proceeds g.C.Chronicle.tells g.C.Chronicle.limits c.args.self.now c.take_in.new.self (ReceivesAfter c.args.self.now.engine c.args.session.0 c.args.number m r)) same got)

pub returns-clause-err : goal.returns-clause-err
returns-clause-err g c = if_err_gives c.take_in.result c.take_in.ensures.err
    (λ e refused h s.
    let same : c.in_ok-message.message ≡ c.args.prepared.now.message = c.in_ok-message.ensures.cases ∙ c.message.ensures.value in
    refused_as_prepared e (g.C.Chronicle.limits c.args.self.now.chronicle) c.args.self.now.engine h c.args.session.0 c.args.number c.args.prepared.now c.in_ok-reading.reading (c.in_ok-reading.ensures.ok h s.stands)
    (subst (λ (m : List ℕ). RefusesReceiveAfter e (g.C.Chronicle.limits c.args.self.now.chronicle) c.args.self.now.engine h c.args.session.0 c.args.number m) same (refused h s)))

pub take_in-requires-clause-read : goal.take_in-requires-clause-read
take_in-requires-clause-read g c h s =
    let same : c.in_ok-message.message ≡ c.args.prepared.now.message = c.in_ok-message.ensures.cases ∙ c.message.ensures.value in
    subst (λ (m : List ℕ). IsNextReading h c.args.session.0 c.args.number m c.in_ok-reading.reading) (sym same) (c.in_ok-reading.ensures.ok h s.stands)
