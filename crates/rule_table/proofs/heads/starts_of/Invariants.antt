use Rattle.rule_table.proofs.HeadLaws.{AreSome}
use Rattle.rule_table.proofs.heads.starts_of.Given as goal

abbrev pub invariant-loop-head : goal.invariant-loop-head
invariant-loop-head l = AreSome l.cuts l.unit l.head l.below l.starts.items
