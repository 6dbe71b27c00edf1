use Rattle.std.specs.Ordering.{nat_cmp}
use Rattle.std.specs.BTreeMap.{get}
use Rattle.rule_table.proofs.KeptLaws.{firsts}
use Rattle.rule_table.proofs.VerdictLaws.{judging}
use Rattle.rule_table.proofs.candidates.Candidates.new.Goals as goal

pub invariant_of-result : goal.invariant_of-result
invariant_of-result c =
    firsts (judging c.args.rules.now c.args.name.now c.args.domain c.args.flow_record.now) c.args.places.now c.first_on_records.result c.first_on_any.result (get nat_cmp c.in_ok-on_named.on_named)
    c.requires c.first_on_records.ensures c.first_on_any.ensures c.in_ok-on_named.ensures
