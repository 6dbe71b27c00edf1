use Rattle.std.proofs.Common.{sym, ◌∙◌}
use Rattle.std.specs.Arc.{arc_value}
use Rattle.subscriber_stream.proofs.Rooms.{none_more, unknown_more, known_more}
use Rattle.subscriber_stream.proofs.room.is_new_at.Goals as goal

pub returns-then-len-eq0 : goal.returns-then-len-eq0
returns-then-len-eq0 c =
    none_more c.args.shapes.now.shapes c.args.runs.now c.args.place c.index-runs-place.result c.requires c.index-runs-place.is (sym c.len.ensures.value ∙ c.if-len-eq0.true)

pub returns-then-not-has : goal.returns-then-not-has
returns-then-not-has c =
    unknown_more c.args.shapes.now.shapes c.args.runs.now c.args.place c.index-runs-place.result c.deref.result.now c.is_used.result c.requires c.index-runs-place.is (c.deref.ensures ∙ c.shared_template-template.ensures.value) (λ none. c.if-len-eq0.false (c.len.ensures.value ∙ none)) (rw c.deref.ensures (sym c.if-not-has.ensures)) c.is_used.ensures

pub returns-else-not-has : goal.returns-else-not-has
returns-else-not-has c =
    known_more c.args.shapes.now.shapes c.args.runs.now c.args.place c.index-runs-place.result (arc_value c.shared_template-template.result.now) c.has.result c.requires c.index-runs-place.is c.shared_template-template.ensures.value (λ none. c.if-len-eq0.false (c.len.ensures.value ∙ none)) c.has.ensures c.if-not-has.false
