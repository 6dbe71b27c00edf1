use Rattle.rule_table.proofs.CoveringLaws.{in_order}
use Rattle.rule_table.proofs.covering.Sorted.of.Goals as goal

pub invariant_of-result : goal.invariant_of-result
invariant_of-result c =
    in_order c.args.side c.args.flow_record.now c.args.addresses.now c.count_of.result c.in_ok-narrow.narrow.items c.in_ok-wide.wide.items
    c.requires c.count_of.ensures c.in_ok-narrow.ensures.each c.in_ok-narrow.ensures.ascending c.in_ok-wide.ensures.each c.in_ok-wide.ensures.ascending
