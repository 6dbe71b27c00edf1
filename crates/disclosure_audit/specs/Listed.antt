-- How a list of removed fields is kept.
use Rattle.std.specs.Prelude.{List, []}
use Rattle.std.specs.Arc.{arc_value}
use Rattle.disclosure_audit.specs.declared.entry.RemovedField.{RemovedField}
use Rattle.disclosure_audit.specs.declared.entry.Listed.{Listed}
use Rattle.disclosure_audit.specs.declared.entry.Listed.TheVariants.{None, One, Shared}

abbrev pub list_of : Listed → List RemovedField
list_of None = []
list_of (One one) = one
list_of (Shared fields) = (arc_value fields).items
