use Rattle.std.proofs.Common.{ltb, rules, tests, arith}
use Rattle.std.proofs.lemmas.Bool.{ltb-true, ltb-false}
use Rattle.std.proofs.lemmas.List.Sorted.{IsPartitionPoint-from_clause, IsPartitionedBy-ltb}
use Rattle.rule_table.proofs.CountLaws.{class_at}
use Rattle.rule_table.proofs.classes.count_below.Goals as goal

pub returns-clause-class : goal.returns-clause-class
returns-clause-class c =
    let point = IsPartitionPoint-from_clause (λ y. ltb y c.args.bound) c.args.numbers.now c.partition_point.result c.partition_point.ensures.partitioned (IsPartitionedBy-ltb (λ y. y) c.args.numbers.now c.args.bound c.requires) (λ a r f' k. search (rules, tests)) in
    class_at c.args.numbers.now c.args.bound c.partition_point.result c.partition_point.ensures.bound
    (λ k l. ltb-true _ _ (point.0 k 0 (omega arith) l)) (λ k l m. ltb-false _ _ (point.1 k 0 l m))
