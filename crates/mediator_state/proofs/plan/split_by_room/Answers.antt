use Rattle.std.proofs.Common.{arith, refl, sym, ◌∙◌}
use Rattle.mediator_state.proofs.Judging.{split_cut, split_left}
use Rattle.mediator_state.proofs.plan.split_by_room.Goals as goal
use Rattle.mediator_state.proofs.plan.split_by_room.Goals.{then-lacks_room+in_ok-push, else-lacks_room+in_ok-push-2}

pub served-preserved : goal.served-preserved
served-preserved c = elim c.if-lacks_room.branch [
  | then-lacks_room+in_ok-push w ↦
      rw (w.cuts-is, w.left-is) (split_cut c.args.subscriptions.now c.args.served.now c.args.shares.now c.served.cuts.items w.push.new.self.items c.served.left.items c.served.place _ _ c.index-shares-place.result
      c.served.invariant (omega (arith, c.served-test.true)) (omega (arith, c.served-test.true, c.requires.each)) refl c.index-shares-place.is (sym c.lacks_room.ensures ∙ w.if-lacks_room.true) w.in_ok-push.ensures.items)
  | else-lacks_room+in_ok-push-2 w ↦
      rw (w.cuts-is, w.left-is) (split_left c.args.subscriptions.now c.args.served.now c.args.shares.now c.served.cuts.items c.served.left.items w.push-else-lacks_room.new.self.items c.served.place _ _ c.index-shares-place.result
      c.served.invariant (omega (arith, c.served-test.true)) (omega (arith, c.served-test.true, c.requires.each)) refl c.index-shares-place.is (sym c.lacks_room.ensures ∙ w.if-lacks_room.false) w.in_ok-push-2.ensures.items)
]
