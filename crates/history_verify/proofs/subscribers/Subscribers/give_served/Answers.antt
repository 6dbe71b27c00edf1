use Rattle.std.proofs.Common.{map, sym, ◌∙◌, subst, arith}
use Rattle.std.specs.Prelude.{List}
use Rattle.std.proofs.lemmas.List.{take_all}
use Rattle.mediator_tables.specs.SubscriptionTable.{shown}
use Rattle.mediator_tables.specs.declared.share.Share.{Share}
use Rattle.history_verify.specs.Parts.{served_shares, HasCounted}
use Rattle.history_verify.proofs.GivingLaws.{counted_none, served_step, served_skip, may_count_served}
use Rattle.history_verify.proofs.subscribers.Subscribers.give_served.Goals.{then-contains, else-contains}
use Rattle.history_verify.proofs.subscribers.Subscribers.give_served.Goals as goal

pub shares-init : goal.shares-init
shares-init c = counted_none c.args.self.now

pub give_one-requires : goal.give_one-requires
give_one-requires c = record {
  room = may_count_served c.args.self.now c.shares.self c.args.shares.now c.shares.share-index c.share-item.result _ (omega (arith, c.shares-test.true)) c.share-item.is (sym c.contains.ensures ∙ c.if-contains.true)
      c.requires.room c.shares.invariant;
}

pub shares-preserved : goal.shares-preserved
shares-preserved c = elim c.if-contains.branch [
  | then-contains w ↦ rw w.self-is (served_step c.args.self.now c.shares.self w.give_one.new.self c.args.shares.now c.shares.share-index c.share-item.result _ (omega (arith, c.shares-test.true)) c.share-item.is
      (sym c.contains.ensures ∙ w.if-contains.true) c.shares.invariant w.give_one.ensures)
  | else-contains w ↦ rw w.self-is (served_skip c.args.self.now c.shares.self c.args.shares.now c.shares.share-index c.share-item.result _ (omega (arith, c.shares-test.true)) c.share-item.is
      (sym c.contains.ensures ∙ w.if-contains.false) c.shares.invariant)
]

pub returns : goal.returns
returns c = subst (λ (l : List Share). HasCounted (served_shares c.args.self.now (map shown l)) c.args.self.now c.shares.self) (take_all c.shares.share-index c.args.shares.now (omega (arith, c.shares-test.false))) c.shares.invariant
