-- What a policy discloses of a record to a subscriber: this project's own rule.
use Rattle.std.specs.Prelude.{ℕ, List, [], ◌∷◌, Option, Some, None, nat_lt, ◌==◌, if◌then◌else◌}
use Rattle.std.specs.List.{find}
use Rattle.ipfix_template.specs.declared.template.Template.{Template}
use Rattle.ipfix_template.specs.Template.{shortest_record}
use Rattle.ipfix_template.specs.DataRecord.{DataRecord}
use Rattle.policy_text.specs.declared.rule.Rule.{Rule}
use Rattle.policy_judge.specs.declared.verdict.RecordAction.{RecordAction}
use Rattle.policy_judge.specs.declared.verdict.RecordAction.TheVariants.{Pass, Withhold, Aggregate}
use Rattle.policy_judge.specs.declared.verdict.RecordVerdict.{RecordVerdict}
use Rattle.policy_judge.specs.declared.verdict.ElementVerdict.{ElementVerdict}
use Rattle.policy_judge.specs.Verdicts.{record_verdict_of}
use Rattle.disclosure_audit.specs.declared.reason.Reason.TheVariants as because
use Rattle.disclosure_audit.specs.declared.entry.RemovedField.{RemovedField}
use Rattle.flow_anonymize.specs.declared.disclosure.Disclosure.TheVariants.{Passed, Aggregated, Withheld}
use Rattle.flow_anonymize.specs.Outcome.{Outcome}
use Rattle.flow_anonymize.specs.Remaining.{verdicts_of, kept_fields, kept_values, removed_fields}

-- the fields that stay, and as many scope fields as there were
abbrev pub remaining_template : Template → List ElementVerdict → Template
remaining_template t verdicts = record { fields = kept_fields t.fields verdicts; scope = t.scope }

-- what is left of a record
abbrev pub remaining : DataRecord → List ElementVerdict → DataRecord
remaining r verdicts = record { template = remaining_template r.template verdicts; values = kept_values r.values verdicts }

-- the first removed field among the first fields, which are the scope fields
abbrev pub first_lost : ℕ → List RemovedField → Option RemovedField
first_lost scope removed = find (λ field. nat_lt field.place scope) removed

-- the rule of the first removed field
abbrev pub first_rule_of : List RemovedField → ℕ
first_rule_of [] = 0
first_rule_of (field ∷ others) = field.rule

-- what is left passes, if its shortest record has octets
abbrev pub unless_empty : DataRecord → List RemovedField → Outcome
unless_empty left removed =
    if shortest_record left.template == 0 then Withheld (first_rule_of removed) because.Empty else Passed left removed

-- a record that has lost a scope field is withheld by the rule of that field
abbrev pub unless_lost : Option RemovedField → DataRecord → List RemovedField → Outcome
unless_lost (Some field) left removed = Withheld field.rule because.ScopeLost
unless_lost None left removed = unless_empty left removed

-- what the verdicts on its fields leave of a record that passes
abbrev pub transformed : DataRecord → List ElementVerdict → Outcome
transformed r verdicts =
    unless_lost (first_lost r.template.scope (removed_fields verdicts)) (remaining r verdicts) (removed_fields verdicts)

-- the verdict on the record comes first; its fields matter only where it passes
abbrev pub by_action : RecordAction → ℕ → Outcome → Outcome
by_action Pass rule passing = passing
by_action Withhold rule passing = Withheld rule because.Rule
by_action (Aggregate definition) rule passing = Aggregated rule definition

abbrev pub by_verdict : RecordVerdict → Outcome → Outcome
by_verdict verdict passing = by_action verdict.action verdict.rule passing

-- what these rules disclose of a record of an observation domain to the subscriber of a name
abbrev pub disclosure_of : List ℕ → ℕ → DataRecord → List Rule → Outcome
disclosure_of name domain r rules = by_verdict (record_verdict_of name domain r rules) (transformed r (verdicts_of name domain r rules))
