use Rattle.std.proofs.Common.{refl}
use Rattle.mediator_tables.specs.SubscriptionTable.{cut_off}
use Rattle.mediator_tables.specs.Naming.{number_under}
use Rattle.mediator_tables.proofs.NameLaws.{named_written, named_unwritten}
use Rattle.mediator_tables.proofs.subscriptions.Subscriptions.cut.Goals.{in-Some, in_default}
use Rattle.mediator_tables.proofs.subscriptions.Subscriptions.cut.Goals as goal

pub invariant_of-self : goal.invariant_of-self
invariant_of-self c =
    let s = c.self.inside in
    elim c.match-get_mut.branch [
      | in-Some w ↦ rw w.self-inside-is
          (named_written (number_under s.names) s.by_number (c.get_mut.follows.lender (cut_off w.in-Some.kept.now)) c.args.sub.0 w.in-Some.kept.now (cut_off w.in-Some.kept.now)
          w.in-Some.ensures.value refl (c.get_mut.follows.holds (cut_off w.in-Some.kept.now)) c.self.invariant)
      | in_default w ↦ rw w.self-inside-is (named_unwritten (number_under s.names) s.by_number c.get_mut.follows.lender-at-none c.get_mut.follows.holds-at-none c.self.invariant)
    ]
