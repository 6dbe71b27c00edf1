use Rattle.std.proofs.Common.{refl, rules, arith}
use Rattle.mediator_tables.specs.SubscriptionTable.{shown}
use Rattle.std.specs.Prelude.{map}
use Rattle.disclosure_audit.specs.Queue.{stamp}
use Rattle.disclosure_audit.proofs.StandingLaws.{all_there}
use Rattle.mediator_state.proofs.MessageSteps.{message_step, places_taken}
use Rattle.mediator_state.proofs.engine.Engine.take.Goals as goal

pub push_notes-requires-clause-there : goal.push_notes-requires-clause-there
push_notes-requires-clause-there g c = all_there c.args.self.now.audit c.args.notes c.requires.room.named c.requires.room.kept (omega (arith, c.requires.room.audit))

pub returns-clause-stands : goal.returns-clause-stands
returns-clause-stands g c = λ h number octets tallies named so made apart are is.
    message_step c.args.self.now _ h c.args.session.0 number octets c.args.reading (map shown c.args.shares.items) tallies (map (stamp c.args.position) named) so is
    (record { in_force = refl; edits = refl; opened = refl; begun = refl; limits = refl; others = c.keep.ensures.others; keeps = c.keep.ensures.keeps; each = c.give.ensures.each; served = c.give.ensures.served; adds = c.add_reserved.ensures.adds tallies made apart; takes = c.push_notes.ensures.stands named are })

pub returns-clause-untouched : goal.returns-clause-untouched
returns-clause-untouched g c = record {
  places = places_taken c.args.self.now (record c.args.self.now { sessions = c.keep.new.self; subscriptions = c.give.new.self; groups = c.add_reserved.new.self; audit = c.push_notes.new.self }) c.requires.room.history c.args.session.0 c.args.reading (map shown c.args.shares.items) c.requires.room.groups.0 (map (stamp c.args.position) c.requires.room.named) c.requires.room.stands
      (record { in_force = refl; edits = refl; opened = refl; begun = refl; limits = refl; others = c.keep.ensures.others; keeps = c.keep.ensures.keeps; each = c.give.ensures.each; served = c.give.ensures.served; adds = c.add_reserved.ensures.adds c.requires.room.groups.0 c.requires.room.groups.1 c.requires.room.groups.2; takes = c.push_notes.ensures.stands c.requires.room.named c.requires.room.kept });
  drained = search rules;
  limits = refl;
  audit_limit = search rules;
}
