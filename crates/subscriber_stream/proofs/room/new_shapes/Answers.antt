use Rattle.std.proofs.Common.{length, ap, arith}
use Rattle.subscriber_stream.proofs.ShapeLaws.{shapes_after-nil}
use Rattle.subscriber_stream.proofs.room.new_shapes.Goals as goal

pub loop-place-init : goal.loop-place-init
loop-place-init c = (omega (arith, ap length (shapes_after-nil c.args.shapes.now.shapes)), omega arith)
