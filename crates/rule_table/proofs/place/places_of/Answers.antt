use Rattle.std.proofs.Common.{sym, ◌∙◌, rules}
use Rattle.rule_table.proofs.PlaceLaws.{next_few, next_start, own_place, other_place, all_places}
use Rattle.rule_table.proofs.place.places_of.Goals.{then-has+in_ok-push, else-has}
use Rattle.rule_table.proofs.place.places_of.Goals as goal

pub loop-index-preserved : goal.loop-index-preserved
loop-index-preserved c =
    let f = c.index-fields-index.result in
    let fields = c.args.fields.now in
    let i = c.loop-index.index in
    record {
      few = next_few f i c.loop-index.start _ c.start_behind-start.ensures.start c.start_behind-start.ensures.near c.loop-index.invariant.few;
      known = next_start fields f i c.loop-index.start _ c.loop-index-test.true c.index-fields-index.is c.start_behind-start.ensures.start c.loop-index.invariant.known;
      shown = elim c.if-has.branch [
        | then-has+in_ok-push w ↦ own_place c.args.side fields f i c.loop-index.start w.place_at.result c.loop-index.places.items _ c.loop-index-test.true c.index-fields-index.is (sym c.has.ensures ∙ w.if-has.true) w.place_at.ensures (search (rules, w.places-is, w.in_ok-push.ensures)) c.loop-index.invariant.known c.loop-index.invariant.shown
        | else-has w ↦ other_place c.args.side fields f i c.loop-index.places.items _ c.loop-index-test.true c.index-fields-index.is (sym c.has.ensures ∙ w.if-has.false) (search (rules, w.places-is)) c.loop-index.invariant.shown
      ];
    }

pub returns : goal.returns
returns c = all_places c.args.side c.args.fields.now c.loop-index.index c.loop-index.places.items c.loop-index-test.false c.loop-index.invariant.shown
