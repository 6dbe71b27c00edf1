-- The verdict of a place that was found, over what is judged.
use Rattle.std.proofs.Common.{◌≡◌, ℕ, List, Option, ap, ◌∙◌}
use Rattle.std.specs.List.{position}
use Rattle.ipfix_template.specs.DataRecord.{DataRecord}
use Rattle.policy_text.specs.declared.rule.Rule.{Rule}
use Rattle.policy_judge.specs.declared.verdict.RecordVerdict.{RecordVerdict}
use Rattle.policy_judge.specs.declared.verdict.ElementVerdict.{ElementVerdict}
use Rattle.policy_judge.specs.Match.{matches_record, matches_field, element_at}
use Rattle.policy_judge.specs.Verdicts.{record_verdict_of, element_verdict_of, record_verdict_at, element_verdict_at}
use Rattle.policy_judge.proofs.FirstRuleLaws.{record_verdict_first, element_verdict_first}
use Rattle.rule_table.specs.Candidates.{Judged}

abbrev pub judging : List Rule → List ℕ → ℕ → DataRecord → Judged
judging rules name domain r = record { rules = rules; name = name; domain = domain; flow_record = r }

abbrev record_verdict_in : Judged → RecordVerdict
record_verdict_in judged = record_verdict_of judged.name judged.domain judged.flow_record judged.rules

abbrev element_verdict_in : ℕ → Judged → ElementVerdict
element_verdict_in field judged = element_verdict_of judged.name judged.domain judged.flow_record field judged.rules

pub record_judged : (judged : Judged) (rules : List Rule) (name : List ℕ) (domain : ℕ) (r : DataRecord) (first : Option ℕ) (verdict : RecordVerdict)
    → judging rules name domain r ≡ judged → first ≡ position (matches_record name domain r) rules → verdict ≡ record_verdict_at rules first
    → verdict ≡ record_verdict_of judged.name judged.domain judged.flow_record judged.rules
record_judged judged rules name domain r first verdict is place made =
    made ∙ ap (record_verdict_at rules) place ∙ record_verdict_first name domain r rules ∙ ap record_verdict_in is

pub element_judged : (judged : Judged) (rules : List Rule) (name : List ℕ) (domain : ℕ) (r : DataRecord) (field : ℕ) (first : Option ℕ) (verdict : ElementVerdict)
    → judging rules name domain r ≡ judged → first ≡ position (matches_field name domain r (element_at r field)) rules → verdict ≡ element_verdict_at rules first
    → verdict ≡ element_verdict_of judged.name judged.domain judged.flow_record field judged.rules
element_judged judged rules name domain r field first verdict is place made =
    made ∙ ap (element_verdict_at rules) place ∙ element_verdict_first name domain r field rules ∙ ap (element_verdict_in field) is
