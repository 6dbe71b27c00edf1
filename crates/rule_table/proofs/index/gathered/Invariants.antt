use Rattle.rule_table.proofs.IndexLaws.{HoldsUnder}
use Rattle.rule_table.proofs.index.gathered.Given as goal

abbrev pub invariant-loop-mark : goal.invariant-loop-mark
invariant-loop-mark l = HoldsUnder l.entries l.marks l.mark-index l.places.items
