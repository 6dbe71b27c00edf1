use Rattle.std.proofs.Common.{arith, refl}
use Rattle.subscriber_stream.proofs.Rooms.{length-shapes_after_most}
use Rattle.subscriber_stream.proofs.room.has_shape_room.Goals as goal

pub returns-then-saturating_add-most : goal.returns-then-saturating_add-most
returns-then-saturating_add-most c =
    (λ _. omega (arith, length-shapes_after_most c.args.shapes.now.shapes c.args.runs.now), λ _. refl)
