-- The verdicts on a record and on a field, by this project's own rule: those of the first rule that matches.
use Rattle.std.specs.Prelude.{ℕ, ◌+◌, Bool, List, Option, Some, None, option_map, slice_get}
use Rattle.std.specs.List.{find, enumerate_from}
use Rattle.ipfix_template.specs.DataRecord.{DataRecord}
use Rattle.policy_text.specs.declared.rule.Rule.{Rule}
use Rattle.policy_text.specs.declared.rule.Action.{Action}
use Rattle.policy_text.specs.declared.rule.Action.TheVariants.{Pass, Withhold, Aggregate, Keep, Remove, Truncate, Degrade}
use Rattle.policy_judge.specs.declared.verdict.RecordAction.{RecordAction}
use Rattle.policy_judge.specs.declared.verdict.RecordAction.TheVariants as on_record
use Rattle.policy_judge.specs.declared.verdict.RecordVerdict.{RecordVerdict}
use Rattle.policy_judge.specs.declared.verdict.ElementAction.{ElementAction}
use Rattle.policy_judge.specs.declared.verdict.ElementAction.TheVariants as on_field
use Rattle.policy_judge.specs.declared.verdict.ElementVerdict.{ElementVerdict}
use Rattle.policy_judge.specs.Match.{matches_record, matches_field, element_at}

-- the first rule that matches, with its number; rules have the numbers 1, 2, .. in their order
abbrev pub first_rule : (Rule → Bool) → List Rule → Option (ℕ × Rule)
first_rule matches rules = find (λ r. matches r.1) (enumerate_from 1 rules)

-- what a rule on records does
abbrev pub record_action : Action → RecordAction
record_action Pass = on_record.Pass
record_action Withhold = on_record.Withhold
record_action (Aggregate place) = on_record.Aggregate place
record_action Keep = on_record.Withhold
record_action Remove = on_record.Withhold
record_action (Truncate bits) = on_record.Withhold
record_action (Degrade seconds) = on_record.Withhold

-- what a rule on fields does
abbrev pub element_action : Action → ElementAction
element_action Pass = on_field.Remove
element_action Withhold = on_field.Remove
element_action (Aggregate place) = on_field.Remove
element_action Keep = on_field.Keep
element_action Remove = on_field.Remove
element_action (Truncate bits) = on_field.Truncate bits
element_action (Degrade seconds) = on_field.Degrade seconds

-- where no rule matches the verdict is rule 0, which withholds
abbrev pub record_verdict_by : Option (ℕ × Rule) → RecordVerdict
record_verdict_by None = record { rule = 0; action = on_record.Withhold }
record_verdict_by (Some first) = record { rule = first.0; action = record_action first.1.action }

-- the same of a field, which rule 0 removes
abbrev pub element_verdict_by : Option (ℕ × Rule) → ElementVerdict
element_verdict_by None = record { rule = 0; action = on_field.Remove }
element_verdict_by (Some first) = record { rule = first.0; action = element_action first.1.action }

-- the verdict on a record, for a subscriber
abbrev pub record_verdict_of : List ℕ → ℕ → DataRecord → List Rule → RecordVerdict
record_verdict_of name domain r rules = record_verdict_by (first_rule (matches_record name domain r) rules)

-- the verdict on the field at this place
abbrev pub element_verdict_of : List ℕ → ℕ → DataRecord → ℕ → List Rule → ElementVerdict
element_verdict_of name domain r place rules = element_verdict_by (first_rule (matches_field name domain r (element_at r place)) rules)

-- the rule at a place, with its number
abbrev pub numbered_rule : List Rule → Option ℕ → Option (ℕ × Rule)
numbered_rule rules None = None
numbered_rule rules (Some place) = option_map (λ rule. (place + 1, rule)) (slice_get rules place)

-- the verdict of the rule at a place on a record, and on a field; at no place it is that of rule 0
abbrev pub record_verdict_at : List Rule → Option ℕ → RecordVerdict
record_verdict_at rules place = record_verdict_by (numbered_rule rules place)

abbrev pub element_verdict_at : List Rule → Option ℕ → ElementVerdict
element_verdict_at rules place = element_verdict_by (numbered_rule rules place)
