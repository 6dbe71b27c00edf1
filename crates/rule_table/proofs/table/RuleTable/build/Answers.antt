use Rattle.rule_table.proofs.TableLaws.{built}
use Rattle.rule_table.proofs.table.RuleTable.build.Goals as goal

pub invariant_of-result : goal.invariant_of-result
invariant_of-result c =
    built c.args.policy.now c.rules-rules.result.now c.in_ok-rules.rules.items c.in_ok-entries.entries.items c.in_ok-sources.sources.items c.in_ok-destinations.destinations.items
    c.rules-rules.ensures.sound c.rules-rules.ensures.value c.in_ok-rules.ensures c.in_ok-entries.ensures.each c.in_ok-entries.ensures.ascending c.in_ok-sources.ensures c.in_ok-destinations.ensures
