-- Rules that never matter to what is disclosed: laws.
use Rattle.std.specs.Prelude.{◌≡◌, ℕ, ◌<◌, true, List, ◌++◌, length, map}
use Rattle.std.specs.List.{list_any}
use Rattle.ipfix_template.specs.DataRecord.{DataRecord}
use Rattle.policy_text.specs.declared.rule.Rule.{Rule}
use Rattle.policy_judge.specs.declared.verdict.RecordAction.TheVariants.{Pass}
use Rattle.policy_judge.specs.Match.{element_at, matches_record, matches_field}
use Rattle.policy_judge.specs.Verdicts.{record_verdict_of}
use Rattle.policy_judge.specs.Laws.{concerning}
use Rattle.disclosure_audit.specs.declared.entry.RemovedField.{RemovedField}
use Rattle.flow_anonymize.specs.declared.disclosure.Disclosure.TheVariants.{Passed, Aggregated, Withheld}
use Rattle.flow_anonymize.specs.Outcome.{Outcome}
use Rattle.flow_anonymize.specs.Disclosed.{disclosure_of}

-- all but the numbers of the rules, which are those of a list's places
abbrev pub unnumbered_field : RemovedField → RemovedField
unnumbered_field field = record { place = field.place; rule = 0 }

abbrev pub unnumbered : Outcome → Outcome
unnumbered (Passed kept removed) = Passed kept (map unnumbered_field removed)
unnumbered (Aggregated rule definition) = Aggregated 0 definition
unnumbered (Withheld rule reason) = Withheld 0 reason

-- without the rules that name another subscriber the same is disclosed, with other numbers at most
abbrev pub OthersNeverMatter : Type 0
OthersNeverMatter = (name : List ℕ) (domain : ℕ) (r : DataRecord) (rules : List Rule)
    → unnumbered (disclosure_of name domain r (concerning name rules)) ≡ unnumbered (disclosure_of name domain r rules)

-- some of the rules matches the record, and where it passes each of its fields is matched too
pub record Decide (name : List ℕ) (domain : ℕ) (r : DataRecord) (rules : List Rule) : Type 0 where
  pub on_record : list_any (matches_record name domain r) rules ≡ true
  pub on_fields : (record_verdict_of name domain r rules).action ≡ Pass → (place : ℕ) → place < length r.template.fields
      → list_any (matches_field name domain r (element_at r place)) rules ≡ true

-- whatever rules stand behind those that decide, the same is disclosed, by the same numbers
abbrev pub LaterNeverMatter : Type 0
LaterNeverMatter = (name : List ℕ) (domain : ℕ) (r : DataRecord) (front back : List Rule) → Decide name domain r front
    → disclosure_of name domain r (front ++ back) ≡ disclosure_of name domain r front
