use Rattle.std.proofs.Common.{map, refl, sym, ap, arith, [], ◌∷◌}
use Rattle.std.proofs.lemmas.List.{nil_from_length}
use Rattle.std.specs.Vec.Iter.{into_iter_items}
use Rattle.ipfix_session.specs.Keeping.{at_key}
use Rattle.mediator_tables.specs.SubscriptionTable.{SubscriptionRows, shown, given_to}
use Rattle.mediator_tables.specs.Naming.{number_under, name_of_sub}
use Rattle.mediator_tables.proofs.NameLaws.{named_same, name_given}
use Rattle.mediator_tables.proofs.ShareLaws.{giving_start, giving_ready, giving_next, giving_end}
use Rattle.mediator_tables.proofs.subscriptions.Subscriptions.give.Goals as goal

pub shares-init : goal.shares-init
shares-init c = record {
  named = c.self.invariant;
  giving = giving_start c.args.self.now.live c.self.inside.by_number.entries (map shown c.args.shares.items) (map shown (into_iter_items c.into_iter-share-iterator.result))
      (ap (λ (t : SubscriptionRows). t.live) c.self.view_is) (ap (map shown) (sym c.into_iter-share-iterator.ensures.into_iter_gives.0)) c.requires.ready;
  served = ap (λ (t : SubscriptionRows). t.served) c.self.view_is;
}

pub give_one-requires : goal.give_one-requires
give_one-requires c = record {
  ready = giving_ready c.args.self.now.live c.shares.self-inside.by_number.entries (map shown c.args.shares.items) (map shown (into_iter_items c.shares.share-iterator))
      (map shown (into_iter_items c.next.new.self)) (shown c.in-Some.share) (ap (map shown) c.in-Some.ensures.steps.0) c.shares.invariant.giving;
}

pub shares-preserved : goal.shares-preserved
shares-preserved c =
    let s = c.shares.self-inside in
    record {
      named = named_same (number_under s.names) (number_under s.names) (name_of_sub s.by_number.entries) (name_of_sub c.give_one.new.live.entries) (λ n. refl)
          (λ q. name_given (given_to q (shown c.in-Some.share ∷ [])) (at_key q s.by_number.entries) (at_key q c.give_one.new.live.entries) (c.give_one.ensures.each q)) c.shares.invariant.named;
      giving = giving_next c.args.self.now.live s.by_number.entries c.give_one.new.live.entries (map shown c.args.shares.items)
          (map shown (into_iter_items c.shares.share-iterator)) (map shown (into_iter_items c.next.new.self)) (shown c.in-Some.share) (ap (map shown) c.in-Some.ensures.steps.0)
          c.give_one.ensures.each c.give_one.ensures.others c.shares.invariant.giving;
      served = c.shares.invariant.served;
    }

pub returns-clause-each : goal.returns-clause-each
returns-clause-each c =
    giving_end c.args.self.now.live c.shares.self-inside.by_number.entries (map shown c.args.shares.items) (map shown (into_iter_items c.shares.share-iterator)) c.shares.invariant.giving
    (ap (map shown) (nil_from_length (into_iter_items c.shares.share-iterator) (omega (arith, c.in-None.ensures.steps.0))))
