use Rattle.std.proofs.Common.{ℕ, Some, None, subst}
use Rattle.std.specs.Prelude.{IfSome, IsSomeAnd, ◌≢◌}
use Rattle.mediator_tables.specs.SubscriptionTable.{SubscriptionRows, at, HasName}
use Rattle.mediator_tables.specs.Naming.{number_under}
use Rattle.mediator_tables.proofs.NameLaws.{named_found, named_none}
use Rattle.mediator_tables.proofs.subscriptions.Subscriptions.named.Goals as goal

pub returns-in-Some-clause-found : goal.returns-in-Some-clause-found
returns-in-Some-clause-found c =
    let s = c.self.inside in
    subst (λ (t : SubscriptionRows). IsSomeAnd (at t c.in-Some.sub) (HasName c.args.name.now)) c.self.view_is
    (named_found (number_under s.names) s.by_number.entries c.args.name.now (Some c.in-Some.sub) c.in-Some.ensures c.self.invariant)

pub returns-in-None-clause-none : goal.returns-in-None-clause-none
returns-in-None-clause-none c =
    let s = c.self.inside in
    subst (λ (t : SubscriptionRows). (sub : ℕ) → IfSome (at t sub) (λ x. x.name ≢ c.args.name.now)) c.self.view_is
    (named_none (number_under s.names) s.by_number.entries c.args.name.now None c.in-None.ensures c.self.invariant)
