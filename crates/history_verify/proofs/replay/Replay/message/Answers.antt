use Rattle.std.specs.Prelude.{if◌then◌else◌}
use Rattle.std.proofs.Common.{Bool, List, [], ◌∷◌, ◌++◌, map, refl, sym, subst, ap, ◌∙◌}
use Rattle.mediator_tables.specs.SubscriptionTable.{shown}
use Rattle.event_journal.specs.declared.entry.Entry.TheVariants.{Message}
use Rattle.mediator_history.specs.Counting.{counted_at}
use Rattle.mediator_history.proofs.CountingLaws.{running-message}
use Rattle.mediator_tables.specs.declared.share.Share.{Share}
use Rattle.mediator_tables.specs.Adding.{tallied, reserved_for}
use Rattle.history_verify.specs.Parts.{MayCount, HasCounted}
use Rattle.history_verify.proofs.FeedLaws.{on_err}
use Rattle.history_verify.proofs.ExporterLaws.{exporters_same}
use Rattle.history_verify.proofs.TakenLaws.{same_replay, sums_same, sums_after, ready_still, keep_room, keep_count, taken_message, message_room}
use Rattle.history_verify.proofs.replay.Replay.message.Goals as goal

pub returns-in_err-make_room-clause-unchanged : goal.returns-in_err-make_room-clause-unchanged
returns-in_err-make_room-clause-unchanged c =
    on_err c.from_residual-in_err-make_room.result
    (same_replay c.args.self.now _ refl refl refl (λ h so. exporters_same c.args.self.now.exporters c.make_room.new.self h c.make_room.ensures.unchanged so) refl (λ h so. so) c.reserve.ensures.unchanged)

pub returns-in_err-reserved-clause-unchanged : goal.returns-in_err-reserved-clause-unchanged
returns-in_err-reserved-clause-unchanged c =
    on_err c.from_residual-in_err-reserved.result
    (same_replay c.args.self.now _ refl refl refl (λ h so. exporters_same c.args.self.now.exporters c.make_room.new.self h c.make_room.ensures.unchanged so) refl
    (λ h so. sums_same c.args.self.now.sums c.reserve-2.new.self h c.reserve-2.ensures.unchanged so) c.reserve.ensures.unchanged)

pub keep-requires : goal.keep-requires
keep-requires c = record {
  room = keep_room c.make_room.new.self c.requires.planned.1 c.args.session c.args.reading (exporters_same c.args.self.now.exporters c.make_room.new.self c.requires.planned.1 c.in_ok-make_room.ensures.unchanged c.requires.planned.4.exporters) c.requires.planned.5.turn.0 c.in_ok-make_room.ensures.room;
  count = keep_count c.make_room.new.self c.requires.short.history c.args.session (exporters_same c.args.self.now.exporters c.make_room.new.self c.requires.short.history c.in_ok-make_room.ensures.unchanged c.requires.short.stands.over.exporters) c.requires.short.short;
}

pub give-requires : goal.give-requires
give-requires c = record {
  room = subst (λ (l : List Share). MayCount c.args.self.now.subscribers (map shown l)) (sym c.deref-2.ensures.value)
      (message_room c.args.self.now.audit.wanted c.args.self.now c.requires.planned.0 c.requires.planned.1 c.args.session c.requires.planned.2 c.requires.planned.3 c.args.reading c.args.judged c.requires.short c.requires.planned.4 c.requires.planned.5 c.requires.few c.requires.planned.6);
}

pub add-requires : goal.add-requires
add-requires c = (
  map tallied c.args.judged.tallies.items,
  ready_still c.args.self.now.audit.wanted c.args.self.now c.requires.planned.0 c.requires.planned.1 c.args.session c.requires.planned.2 c.requires.planned.3 c.args.judged c.reserve-2.new.self.groups c.remove.new.self.groups c.deref-3.result.now c.deref.result.now (map reserved_for c.in_ok-reserved.reserved.items)
      c.requires.planned.4 c.requires.planned.6 c.deref-3.ensures.value c.deref.ensures.value c.in_ok-reserved.ensures.ready (c.remove.ensures.ready (map reserved_for c.in_ok-reserved.reserved.items)),
  c.requires.planned.6.apart,
)

pub returns-clause-ok : goal.returns-clause-ok
returns-clause-ok c = λ g h number octets so is all judged.
    taken_message c.args.self.now _ g h c.args.session number octets c.args.reading c.args.judged so is c.requires.few all judged
    c.clear.ensures.items refl refl
    (c.keep.ensures h number octets (exporters_same c.args.self.now.exporters c.make_room.new.self h c.in_ok-make_room.ensures.unchanged so.exporters) is.turn.0 is.read)
    (subst (λ (l : List Share). HasCounted (map shown l) c.args.self.now.subscribers c.give.new.self) c.deref-2.ensures.value c.give.ensures)
    (c.add.ensures (map tallied c.args.judged.tallies.items) (λ q. counted_at q h (Message c.args.session number octets)) h (h ++ Message c.args.session number octets ∷ [])
    (ready_still c.args.self.now.audit.wanted c.args.self.now g h c.args.session number octets c.args.judged c.reserve-2.new.self.groups c.remove.new.self.groups c.deref-3.result.now c.deref.result.now (map reserved_for c.in_ok-reserved.reserved.items)
    so judged c.deref-3.ensures.value c.deref.ensures.value c.in_ok-reserved.ensures.ready (c.remove.ensures.ready (map reserved_for c.in_ok-reserved.reserved.items)))
    judged.apart judged.adds
    (sums_after c.args.self.now g h c.reserve-2.new.self c.remove.new.self c.deref-3.result.now so c.deref-3.ensures.value (sums_same c.args.self.now.sums c.reserve-2.new.self g c.reserve-2.ensures.unchanged so.sums) c.remove.ensures.gone)
    (λ q. running-message q h c.args.session number octets))
    (λ list more noted wanted. c.append.ensures.more list more (c.reserve.ensures.unchanged list noted) (wanted ∙ ap (λ (b : Bool). if b then more else []) (sym c.reserve.ensures.wanted)))
