use Rattle.std.proofs.Common.{◌∙◌, refl, ap, arith}
use Rattle.std.specs.Option.{option_map}
use Rattle.mediator_tables.specs.SubscriptionTable.{SubscriptionRows, at, shown, seen_subscription}
use Rattle.mediator_tables.specs.Naming.{number_under, name_of_sub}
use Rattle.mediator_tables.proofs.NameLaws.{named_same, names_seen}
use Rattle.mediator_tables.proofs.ShareLaws.{spare_more}
use Rattle.mediator_tables.proofs.subscriptions.Subscriptions.reserve.Goals as goal

pub shares-init : goal.shares-init
shares-init c = record {
  named = c.self.invariant;
  same = λ q. ap (λ (t : SubscriptionRows). option_map seen_subscription (at t q)) c.self.view_is;
  served = ap (λ (t : SubscriptionRows). t.served) c.self.view_is;
  spare = tt;
}

pub invariant_of-self-in_err-reserve_one : goal.invariant_of-self-in_err-reserve_one
invariant_of-self-in_err-reserve_one c =
    let s = c.shares.self-inside in
    named_same (number_under s.names) (number_under s.names) (name_of_sub s.by_number.entries) (name_of_sub c.reserve_one.new.live.entries) (λ n. refl)
    (names_seen s.by_number.entries c.reserve_one.new.live.entries c.reserve_one.ensures.unchanged) c.shares.invariant.named

pub shares-preserved : goal.shares-preserved
shares-preserved c =
    let s = c.shares.self-inside in
    record {
      named = named_same (number_under s.names) (number_under s.names) (name_of_sub s.by_number.entries) (name_of_sub c.reserve_one.new.live.entries) (λ n. refl)
          (names_seen s.by_number.entries c.reserve_one.new.live.entries c.reserve_one.ensures.unchanged) c.shares.invariant.named;
      same = λ q. c.reserve_one.ensures.unchanged q ∙ c.shares.invariant.same q;
      served = c.shares.invariant.served;
      spare = spare_more shown s.by_number.entries c.reserve_one.new.live.entries c.args.shares.now c.shares.share-index c.share-item.result _ (omega (arith, c.shares-test.true)) c.share-item.is
          c.reserve_one.ensures.kept c.in_ok-reserve_one.ensures.ok c.shares.invariant.spare;
    }
