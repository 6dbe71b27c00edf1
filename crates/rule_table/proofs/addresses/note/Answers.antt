use Rattle.rule_table.proofs.ShapeLaws.{noted}
use Rattle.rule_table.proofs.addresses.note.Goals as goal

pub returns-else-not-has_shape-clause-noted : goal.returns-else-not-has_shape-clause-noted
returns-else-not-has_shape-clause-noted c = noted c.args.shapes.now.items c.deref.result.now c.args.shape c.has_shape.result c.deref.ensures.value c.has_shape.ensures c.if-not-has_shape.false
