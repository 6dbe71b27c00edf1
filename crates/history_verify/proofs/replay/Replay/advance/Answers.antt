use Rattle.std.proofs.Common.{List, ◌++◌, ◌∷◌, [], map, refl, sym, subst}
use Rattle.mediator_tables.specs.SubscriptionTable.{shown}
use Rattle.event_journal.specs.declared.entry.Entry.TheVariants.{Advance}
use Rattle.mediator_tables.specs.declared.share.Share.{Share}
use Rattle.mediator_history.proofs.CountingLaws.{running-advance}
use Rattle.history_verify.specs.Parts.{served_shares, MayCount, HasCounted}
use Rattle.history_verify.proofs.TakenLaws.{sums_after, taken_advance, advance_room}
use Rattle.history_verify.proofs.replay.Replay.advance.Goals as goal

pub give_served-requires : goal.give_served-requires
give_served-requires c = record {
  room = subst (λ (l : List Share). MayCount c.args.self.now.subscribers (served_shares c.args.self.now.subscribers (map shown l))) (sym c.deref.ensures.value)
      (advance_room c.args.self.now c.requires.short.stands.settled c.requires.short.history c.args.t (map shown c.in_ok-shares.shares.items) c.requires.short c.requires.short.stands.over (c.requires.accepted c.requires.short.history c.requires.short.stands)
      (c.in_ok-shares.ensures c.requires.short.stands.settled c.requires.short.stands.over.sums));
}

pub returns-clause-ok : goal.returns-clause-ok
returns-clause-ok c = λ g h so later all.
    taken_advance c.args.self.now _ g h c.args.t (map shown c.in_ok-shares.shares.items) so later all (c.in_ok-shares.ensures g so.sums)
    c.clear.ensures.items refl c.advance.ensures refl
    (subst (λ (l : List Share). HasCounted (served_shares c.args.self.now.subscribers (map shown l)) c.args.self.now.subscribers c.give_served.new.self) c.deref.ensures.value c.give_served.ensures)
    (c.close.ensures h (h ++ Advance c.args.t ∷ []) (sums_after c.args.self.now g h c.args.self.now.sums c.remove.new.self c.deref-2.result.now so c.deref-2.ensures.value so.sums c.remove.ensures.gone) (λ q. running-advance q h c.args.t later))
    refl
