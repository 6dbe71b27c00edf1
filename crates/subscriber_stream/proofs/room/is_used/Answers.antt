use Rattle.std.proofs.Common.{◌+◌, sym, ◌∙◌}
use Rattle.subscriber_stream.proofs.Rooms.{used_more, used_within, or_true, or_false_both}
use Rattle.subscriber_stream.proofs.room.is_used.Goals as goal

pub returns-then-brings : goal.returns-then-brings
returns-then-brings c =
    sym (used_within c.args.template.now c.args.runs.now (c.loop-earlier.earlier-index + 1) (used_more c.args.template.now c.args.runs.now c.loop-earlier.earlier-index c.earlier-item.result c.brings.result c.loop-earlier-test.true c.earlier-item.is c.brings.ensures ∙ or_true _ _ c.if-brings.true))

pub loop-earlier-preserved : goal.loop-earlier-preserved
loop-earlier-preserved c =
    used_more c.args.template.now c.args.runs.now c.loop-earlier.earlier-index c.earlier-item.result c.brings.result c.loop-earlier-test.true c.earlier-item.is c.brings.ensures ∙ or_false_both _ _ c.loop-earlier.invariant c.if-brings.false
