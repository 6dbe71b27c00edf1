use Rattle.std.proofs.Common.{List, [], None, take, refl, sym, subst, ◌∙◌, arith}
use Rattle.std.proofs.lemmas.List.{take_all}
use Rattle.mediator_tables.specs.declared.served.Served.{Served}
use Rattle.mediator_shares.specs.Alike.{AreLed, IsGrouping}
use Rattle.mediator_shares.proofs.SharingLaws.{more_served}
use Rattle.mediator_shares.proofs.AlikeLaws.{grouping_start, grouping_is}
use Rattle.mediator_shares.proofs.alike.groups_of.Goals as goal

pub served-init : goal.served-init
served-init c = (
  grouping_is c.args.in_force.now.policy.rules c.in_ok-with_capacity.field-0.items [] None [] [] c.in_ok-with_capacity-2.field-0.items c.in_ok-with_capacity.ensures.items c.in_ok-with_capacity-2.ensures.items
      (grouping_start c.args.in_force.now.policy.rules),
  (λ alone. c.in_ok-with_capacity.ensures.items),
)

pub served-preserved : goal.served-preserved
served-preserved c =
    let rules = c.args.in_force.now.policy.rules in
    let served = c.args.served.now in
    let k = c.served.who-index in
    let one = more_served served k _ _ (omega (arith, c.served-test.true)) refl in (
      subst (λ (ws : List Served). IsGrouping rules c.add.new.self.leaders.items c.add.new.self.unnamed ws c.add.new.self.places.items) (sym one)
          (c.in_ok-add.ensures.grouping rules (take k served) c.names.ensures c.served.invariant.0),
      (λ alone. c.in_ok-add.ensures.alone (take k served) c.served.invariant.1 alone ∙ sym one),
    )

pub returns-clause-led : goal.returns-clause-led
returns-clause-led c =
    subst (λ (ws : List Served). AreLed c.args.in_force.now.policy.rules c.served.groups.leaders.items ws c.served.groups.places.items) (take_all c.served.who-index c.args.served.now (omega (arith, c.served-test.false))) c.served.invariant.0.led

pub returns-clause-alone : goal.returns-clause-alone
returns-clause-alone c = λ alone. c.served.invariant.1 alone ∙ take_all c.served.who-index c.args.served.now (omega (arith, c.served-test.false))
