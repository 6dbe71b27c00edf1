use Rattle.std.proofs.Common.{refl}
use Rattle.mediator_tables.specs.declared.subscription.Subscription.{Subscription}
use Rattle.mediator_tables.specs.Naming.{number_under}
use Rattle.mediator_tables.proofs.NameLaws.{named_written}
use Rattle.mediator_tables.proofs.subscriptions.Subscriptions.pull_pieces.Goals as goal

pub invariant_of-self : goal.invariant_of-self
invariant_of-self c =
    let s = c.self.inside in
    let kept : Subscription = c.in-Some.kept.now in
    let left : Subscription = record kept { stream = c.pull_pieces.new.self } in
    named_written (number_under s.names) s.by_number (c.get_mut.follows.lender left) c.args.sub.0 kept left c.in-Some.ensures.value refl (c.get_mut.follows.holds left) c.self.invariant
