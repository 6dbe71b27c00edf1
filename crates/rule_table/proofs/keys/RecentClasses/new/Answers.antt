use Rattle.std.specs.Arc.{arc_value}
use Rattle.rule_table.proofs.keys.RecentClasses.new.Goals as goal

pub invariant_of-result : goal.invariant_of-result
invariant_of-result c = record { of_sources = c.empty.ensures (arc_value c.args.classes); of_destinations = c.empty-2.ensures (arc_value c.args.classes) }
