use Rattle.std.proofs.Common.{◌≡◌, ◌≢◌, ℕ, List, Some, false, cond, eqb, sym, ap, ◌∙◌, subst}
use Rattle.std.specs.Prelude.{IfSome}
use Rattle.ipfix_session.specs.Keeping.{at_key}
use Rattle.mediator_tables.specs.declared.subscription.Subscription.{Subscription}
use Rattle.mediator_tables.specs.SubscriptionTable.{SubscriptionRows, at}
use Rattle.mediator_tables.specs.Naming.{number_under, name_of_sub}
use Rattle.mediator_tables.proofs.NameLaws.{named_more, names_more, name_free, name_in}
use Rattle.mediator_tables.proofs.subscriptions.Subscriptions.insert.Goals as goal

pub invariant_of-self-2 : goal.invariant_of-self-2
invariant_of-self-2 c =
    let s = c.self.inside in
    let es = s.by_number.entries in
    let name = c.args.name.now in
    let added : Subscription = record { name = c.in_ok-new.field-0; is_cut = false; stream = c.args.stream } in
    let named : c.in_ok-new.field-0 ≡ name = c.in_ok-new.ensures ∙ c.as_bytes.ensures.value in
    named_more (number_under s.names) (number_under c.insert.new.self) (name_of_sub es) (name_of_sub c.put.new.live.entries) c.args.sub.0 name
    (ap (λ (t : SubscriptionRows). name_in (at t c.args.sub.0)) c.self.view_is ∙ ap name_in c.requires.new)
    (λ q. name_free name (at_key q es) (subst (λ (t : SubscriptionRows). IfSome (at t q) (λ x. x.name ≢ name)) (sym c.self.view_is) (c.requires.free q)))
    c.in_ok-insert.ensures.ok
    (λ q. names_more es c.put.new.live.entries c.args.sub.0 added c.in_default.ensures.ok q ∙ ap (λ (n : List ℕ). cond (eqb q c.args.sub.0) (Some n) (name_of_sub es q)) named)
    c.self.invariant
