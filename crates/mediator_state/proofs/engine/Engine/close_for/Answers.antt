use Rattle.std.proofs.Common.{refl, arith, sym, subst, ◌∙◌, map}
use Rattle.std.proofs.lemmas.List.{take_all}
use Rattle.mediator_tables.specs.SubscriptionTable.{shown}
use Rattle.mediator_tables.specs.SubscriptionTable.{told}
use Rattle.mediator_state.specs.Advancing.{closing_share, AreParted}
use Rattle.mediator_state.proofs.AdvanceJudging.{parting_cut, parting_left}
use Rattle.mediator_state.proofs.engine.Engine.close_for.Goals as goal
use Rattle.mediator_state.proofs.engine.Engine.close_for.Goals.{then-lacks_room+in_ok-push, else-lacks_room+in_ok-push-2}

pub served-preserved : goal.served-preserved
served-preserved g c = elim c.if-lacks_room.branch [
  | then-lacks_room+in_ok-push w ↦
      rw (w.cuts-is, w.shares-is) (parting_cut c.args.self.now c.args.t c.args.served.now c.served.cuts.items w.push.new.self.items c.served.shares.items c.served.who-index _ _ (record { sub = _; given = c.in_ok-given.given })
      c.served.invariant (omega (arith, c.served-test.true)) refl (record { sub = refl; closes = c.in_ok-given.ensures }) (sym c.lacks_room.ensures ∙ w.if-lacks_room.true) w.in_ok-push.ensures.items)
  | else-lacks_room+in_ok-push-2 w ↦
      rw (w.cuts-is, w.shares-is) (parting_left c.args.self.now c.args.t c.args.served.now c.served.cuts.items c.served.shares.items w.push-else-lacks_room.new.self.items c.served.who-index _ _ (record { sub = _; given = c.in_ok-given.given })
      c.served.invariant (omega (arith, c.served-test.true)) refl (record { sub = refl; closes = c.in_ok-given.ensures }) (sym c.lacks_room.ensures ∙ w.if-lacks_room.false) w.in_ok-push-2.ensures.items)
]

pub returns : goal.returns
returns g c = λ h so. subst (λ l. AreParted c.args.self.now.subscriptions (map (closing_share h c.args.t) (map told l)) c.served.cuts.items (map shown c.served.shares.items)) (take_all c.served.who-index c.args.served.now (omega (arith, c.served-test.false))) (c.served.invariant h so)
