use Rattle.std.proofs.Common.{sym, ◌∙◌}
use Rattle.std.specs.Arc.{arc_value}
use Rattle.ipfix_template.specs.Equality.{same_template}
use Rattle.subscriber_stream.proofs.TableLaws.{list_any-map}
use Rattle.subscriber_stream.proofs.shape_table.ShapeTable.has.Goals as goal

pub returns : goal.returns
returns c = rw (← c.self.view_is) (c.contains.ensures ∙ sym (list_any-map arc_value (same_template (arc_value c.args.shape.now)) c.self.inside.shapes.keys))
