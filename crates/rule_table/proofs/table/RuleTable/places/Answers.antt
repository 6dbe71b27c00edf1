use Rattle.std.proofs.Common.{List, subst}
use Rattle.std.proofs.lemmas.Result.{IfOk-weaker}
use Rattle.policy_text.specs.declared.rule.Rule.{Rule}
use Rattle.rule_table.specs.Candidates.{AreCandidates}
use Rattle.rule_table.proofs.table.RuleTable.places.Goals as goal

pub returns-then-are_few : goal.returns-then-are_few
returns-then-are_few c = IfOk-weaker c.all_places.result _ _ (λ places are.
    subst (λ (rules : List Rule). AreCandidates (record { rules = rules; name = c.args.name.now; domain = c.args.domain; flow_record = c.args.flow_record.now }) places.items) c.rules-rules.ensures.value (are c.args.name.now c.args.domain c.args.flow_record.now)) c.all_places.ensures
