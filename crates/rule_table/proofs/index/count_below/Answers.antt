use Rattle.std.proofs.Common.{ltb, rules, tests, arith}
use Rattle.std.proofs.lemmas.Bool.{ltb-true, ltb-false}
use Rattle.std.proofs.lemmas.List.Sorted.{IsPartitionPoint-from_clause, IsPartitionedBy-ltb}
use Rattle.rule_table.proofs.index.count_below.Goals as goal

pub returns-clause-below : goal.returns-clause-below
returns-clause-below c =
    let point = IsPartitionPoint-from_clause (λ y. ltb y c.args.bound) c.args.entries.now c.partition_point.result c.partition_point.ensures.partitioned (IsPartitionedBy-ltb (λ y. y) c.args.entries.now c.args.bound c.requires) (λ a r f' k. search (rules, tests)) in
    λ k l. ltb-true _ _ (point.0 k 0 (omega arith) l)

pub returns-clause-above : goal.returns-clause-above
returns-clause-above c =
    let point = IsPartitionPoint-from_clause (λ y. ltb y c.args.bound) c.args.entries.now c.partition_point.result c.partition_point.ensures.partitioned (IsPartitionedBy-ltb (λ y. y) c.args.entries.now c.args.bound c.requires) (λ a r f' k. search (rules, tests)) in
    λ k l m. ltb-false _ _ (point.1 k 0 l m)
