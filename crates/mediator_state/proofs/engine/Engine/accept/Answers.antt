use Rattle.std.proofs.Common.{◌≡◌, ℕ, List, length, map, ap, ◌∙◌, subst, sym}
use Rattle.disclosure_audit.specs.Noting.{kept_notes}
use Rattle.event_journal.specs.declared.entry.Entry.{Entry}
use Rattle.event_journal.specs.declared.entry.Entry.TheVariants.{Message}
use Rattle.mediator_history.specs.Cuts.{after_cuts}
use Rattle.mediator_tables.specs.Adding.{tallied}
use Rattle.mediator_state.specs.Standing.{Stands}
use Rattle.mediator_state.specs.Steps.{CutsInARow}
use Rattle.mediator_tables.specs.Adding.{reserved_for}
use Rattle.mediator_state.proofs.Accepts.{is_message, ready, groups_ready}
use Rattle.mediator_state.proofs.engine.Engine.accept.Goals as goal

pub take-requires : goal.take-requires
take-requires g c = record {
  room = ready c.args.self.now c.cut_all.new.self c.args.position c.args.plan (map reserved_for c.args.reserved.items) c.requires.planned c.requires.room (subst (λ ns. CutsInARow ns c.args.self.now c.cut_all.new.self) c.deref.ensures.value c.cut_all.ensures.row) c.cut_all.ensures.notes
      (subst (λ ns. (h : List Entry) → Stands c.args.self.now h → length h ≡ c.args.position → Stands c.cut_all.new.self (after_cuts h ns)) c.deref.ensures.value c.cut_all.ensures.stands);
}

pub returns-clause-stands : goal.returns-clause-stands
returns-clause-stands g c = λ h number octets so counted plan.
    let behind : Stands c.cut_all.new.self (after_cuts h c.args.plan.cuts.items) = subst (λ ns. Stands c.cut_all.new.self (after_cuts h ns)) c.deref.ensures.value (c.cut_all.ensures.stands h so counted) in
    let row : CutsInARow c.args.plan.cuts.items c.args.self.now c.cut_all.new.self = subst (λ ns. CutsInARow ns c.args.self.now c.cut_all.new.self) c.deref.ensures.value c.cut_all.ensures.row in
    let made = groups_ready c.args.self.now c.cut_all.new.self h (Message c.args.plan.session.0 number octets) c.args.plan.cuts.items (map reserved_for c.args.reserved.items) (map tallied c.args.plan.tallies.items) behind row plan.tallied_are c.requires.room.groups in
    c.take.ensures.stands (after_cuts h c.args.plan.cuts.items) number octets (map tallied c.args.plan.tallies.items) plan.named behind made.0 made.1
    (plan.kept ∙ ap (λ (n : ℕ). kept_notes n plan.named) (sym c.cut_all.ensures.notes))
    (is_message c.args.self.now c.cut_all.new.self h number octets c.args.plan (map reserved_for c.args.reserved.items) plan c.requires.room row)
