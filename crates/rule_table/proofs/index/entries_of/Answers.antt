use Rattle.std.proofs.lemmas.List.Sorted.{IsNonDecreasingBy-from_sort}
use Rattle.rule_table.proofs.IndexLaws.{standing_sorted}
use Rattle.rule_table.proofs.index.entries_of.Goals as goal

pub returns-clause-each : goal.returns-clause-each
returns-clause-each c = standing_sorted c.args.rules.now _ _ c.sort_unstable.ensures.permutation c.in_ok-entries.ensures

pub returns-clause-ascending : goal.returns-clause-ascending
returns-clause-ascending c = IsNonDecreasingBy-from_sort (λ x. x) _ c.sort_unstable.ensures.sorted
