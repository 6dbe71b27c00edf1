use Rattle.std.proofs.Common.{map, subst, arith}
use Rattle.std.specs.Prelude.{List}
use Rattle.std.proofs.lemmas.List.{take_all}
use Rattle.mediator_tables.specs.SubscriptionTable.{shown}
use Rattle.mediator_tables.specs.declared.share.Share.{Share}
use Rattle.history_verify.specs.Parts.{HasCounted}
use Rattle.history_verify.proofs.GivingLaws.{counted_none, counting_step, may_count_at}
use Rattle.history_verify.proofs.subscribers.Subscribers.give.Goals as goal

pub shares-init : goal.shares-init
shares-init c = counted_none c.args.self.now

pub give_one-requires : goal.give_one-requires
give_one-requires c = record { room = may_count_at c.args.self.now c.shares.self c.args.shares.now c.shares.share-index c.share-item.result _ (omega (arith, c.shares-test.true)) c.share-item.is c.requires.room c.shares.invariant }

pub shares-preserved : goal.shares-preserved
shares-preserved c = counting_step c.args.self.now c.shares.self c.give_one.new.self c.args.shares.now c.shares.share-index c.share-item.result _ (omega (arith, c.shares-test.true)) c.share-item.is c.shares.invariant c.give_one.ensures

pub returns : goal.returns
returns c = subst (λ (l : List Share). HasCounted (map shown l) c.args.self.now c.shares.self) (take_all c.shares.share-index c.args.shares.now (omega (arith, c.shares-test.false))) c.shares.invariant
