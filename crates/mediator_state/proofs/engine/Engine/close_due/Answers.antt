use Rattle.std.proofs.Common.{refl, map}
use Rattle.mediator_tables.specs.SubscriptionTable.{shown}
use Rattle.mediator_state.proofs.AdvanceSteps.{advance_step, places_closed}
use Rattle.mediator_state.proofs.engine.Engine.close_due.Goals as goal

pub returns-clause-stands : goal.returns-clause-stands
returns-clause-stands g c = λ h so ahead is.
    advance_step c.args.self.now _ h c.args.t (map shown c.args.shares.items) so ahead is
    (record { in_force = c.advance.ensures; edits = refl; opened = refl; begun = refl; sessions = refl; limits = refl; each = c.give.ensures.each; served = c.give.ensures.served; stays = c.close.ensures.stays; audit = refl })

pub returns-clause-untouched : goal.returns-clause-untouched
returns-clause-untouched g c = record {
  places = places_closed c.args.self.now (record c.args.self.now { subscriptions = c.give.new.self; groups = c.close.new.self; in_force = c.advance.new.self }) c.requires.room.history (map shown c.args.shares.items) c.requires.room.stands c.give.ensures.each;
  drained = refl;
  limits = refl;
  audit_limit = refl;
}
