use Rattle.rule_table.proofs.IndexLaws.{StandBefore}
use Rattle.rule_table.proofs.index.listed.Given as goal

abbrev pub invariant-loop-place : goal.invariant-loop-place
invariant-loop-place l = StandBefore l.rules l.entries.items l.place
