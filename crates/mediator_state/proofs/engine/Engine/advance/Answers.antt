use Rattle.std.proofs.Common.{◌≡◌, ◌≤◌, ℕ, List, length, subst, sym}
use Rattle.event_journal.specs.declared.entry.Entry.{Entry}
use Rattle.mediator_history.specs.Cuts.{after_cuts}
use Rattle.mediator_history.proofs.CountingLaws.{clock-cuts}
use Rattle.mediator_state.specs.Standing.{Stands}
use Rattle.mediator_state.specs.Steps.{CutsInARow}
use Rattle.mediator_state.proofs.Accepts.{ready_to_close, are_closings}
use Rattle.mediator_state.proofs.engine.Engine.advance.Goals as goal

pub close_due-requires : goal.close_due-requires
close_due-requires g c = record {
  room = ready_to_close c.args.self.now c.cut_all.new.self c.args.position c.args.t c.args.closing c.requires.planned c.requires.room (subst (λ ns. CutsInARow ns c.args.self.now c.cut_all.new.self) c.deref.ensures.value c.cut_all.ensures.row)
      (subst (λ ns. (h : List Entry) → Stands c.args.self.now h → length h ≡ c.args.position → Stands c.cut_all.new.self (after_cuts h ns)) c.deref.ensures.value c.cut_all.ensures.stands);
}

pub returns-clause-stands : goal.returns-clause-stands
returns-clause-stands g c = λ h so counted ahead judged.
    c.close_due.ensures.stands (after_cuts h c.args.closing.cuts.items)
    (subst (λ ns. Stands c.cut_all.new.self (after_cuts h ns)) c.deref.ensures.value (c.cut_all.ensures.stands h so counted))
    (subst (λ (n : ℕ). n ≤ c.args.t) (sym (clock-cuts h c.args.closing.cuts.items)) ahead)
    (are_closings c.args.self.now c.cut_all.new.self h c.args.t c.args.closing judged (subst (λ ns. CutsInARow ns c.args.self.now c.cut_all.new.self) c.deref.ensures.value c.cut_all.ensures.row))
