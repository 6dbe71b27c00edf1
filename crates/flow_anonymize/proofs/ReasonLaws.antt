-- For which reasons a record is withheld.
use Rattle.std.proofs.Common.{ℕ, Bool, true, false, cond, List, Option, Some, None}
use Rattle.std.specs.Prelude.{◌==◌}
use Rattle.ipfix_template.specs.Template.{shortest_record}
use Rattle.ipfix_template.specs.DataRecord.{DataRecord}
use Rattle.policy_judge.specs.declared.verdict.RecordAction.{RecordAction}
use Rattle.policy_judge.specs.declared.verdict.RecordAction.TheVariants.{Pass, Withhold, Aggregate}
use Rattle.policy_judge.specs.declared.verdict.RecordVerdict.{RecordVerdict}
use Rattle.policy_judge.specs.declared.verdict.ElementVerdict.{ElementVerdict}
use Rattle.policy_judge.specs.Verdicts.{record_verdict_of}
use Rattle.disclosure_audit.specs.declared.entry.RemovedField.{RemovedField}
use Rattle.disclosure_audit.specs.declared.reason.Reason.TheVariants as because
use Rattle.flow_anonymize.specs.declared.disclosure.Disclosure.TheVariants.{Passed, Withheld}
use Rattle.flow_anonymize.specs.Outcome.{Outcome}
use Rattle.flow_anonymize.specs.Remaining.{verdicts_of, removed_fields}
use Rattle.flow_anonymize.specs.Disclosed.{remaining, first_lost, first_rule_of, unless_lost, by_action}
use Rattle.flow_anonymize.specs.Reasons.{IsByRules, ReasonsAreOfRules}

by_action_withheld : (a : RecordAction) (rule : ℕ) (passing : Outcome) → IsByRules passing → IsByRules (by_action a rule passing)
by_action_withheld Pass rule passing is = is
by_action_withheld Withhold rule passing is = tt
by_action_withheld (Aggregate definition) rule passing is = tt

left_by : (o : Option RemovedField) (left : DataRecord) (removed : List RemovedField) → IsByRules (unless_lost o left removed)
left_by (Some field) left removed = tt
left_by None left removed = by (shortest_record left.template == 0) where
  by : (b : Bool) → IsByRules (cond b (Withheld (first_rule_of removed) because.Empty) (Passed left removed))
  by true = tt
  by false = tt

pub reasons_are_of_rules : ReasonsAreOfRules
reasons_are_of_rules name domain r rules =
    let verdict : RecordVerdict = record_verdict_of name domain r rules in
    let verdicts : List ElementVerdict = verdicts_of name domain r rules in
    by_action_withheld verdict.action verdict.rule _ (left_by (first_lost r.template.scope (removed_fields verdicts)) (remaining r verdicts) (removed_fields verdicts))
