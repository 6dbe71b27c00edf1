use Rattle.std.proofs.Common.{length, map, refl, ap, ◌∙◌, arith}
use Rattle.std.proofs.lemmas.List.{take_all}
use Rattle.mediator_tables.specs.SubscriptionTable.{shown}
use Rattle.mediator_shares.specs.Sharing.{shares_of}
use Rattle.mediator_shares.proofs.AlikeLaws.{within_at, spread_step}
use Rattle.mediator_shares.proofs.shares.spread.Goals as goal

pub served-init : goal.served-init
served-init c = λ domain f records leaders all led. ap (map shown) c.in_ok-shares.ensures.items

pub bounds-places-place : goal.bounds-places-place
bounds-places-place c = omega (arith, c.served-test.true, c.requires.each)

pub bounds-given-leader : goal.bounds-given-leader
bounds-given-leader c = within_at c.args.places.now (length c.args.given.now) c.served.place _ _ c.requires.within (omega (arith, c.served-test.true, c.requires.each)) refl

pub served-preserved : goal.served-preserved
served-preserved c = λ domain f records leaders all led.
    spread_step c.args.given.now c.served.shares.items c.push.new.self.items domain f records leaders c.args.served.now c.args.places.now c.served.place _ _ _ _ c.index-given-leader.result _ c.in_ok-shared_with.field-0 all led (c.served.invariant domain f records leaders all led)
    (omega (arith, c.served-test.true)) refl refl c.index-given-leader.is c.in_ok-shared_with.ensures c.in_ok-push.ensures.items

pub returns : goal.returns
returns c = λ domain f records leaders all led.
    c.served.invariant domain f records leaders all led ∙ ap (λ ws. shares_of domain f records ws) (take_all c.served.place c.args.served.now (omega (arith, c.served-test.false)))
