use Rattle.std.proofs.Common.{sym, ◌∙◌}
use Rattle.std.specs.Arc.{arc_value}
use Rattle.subscriber_stream.proofs.TableLaws.{placed_again}
use Rattle.subscriber_stream.proofs.shape_table.ShapeTable.place_again.Goals as goal

pub returns-then-eq : goal.returns-then-eq
returns-then-eq c =
    let at = rw (← c.self.view_is) at c.shape.ensures in
    rw (← c.self.view_is) (placed_again arc_value c.self.inside.shapes.keys c.self.inside.last c.args.shape.now c.shape.result.now c.len.ensures.unique at (sym c.eq.ensures ∙ c.if-eq.true))
