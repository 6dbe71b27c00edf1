-- The few rules that may match a record.
use Rattle.std.specs.Prelude.{◌≡◌, ℕ, ◌≤◌, Bool, true, false, List, length, Option, Some, None, slice_get, position, ◌&&◌}
use Rattle.std.specs.List.{Contains, find, list_any}
use Rattle.std.specs.List.Sorted.{IsNonDecreasing}
use Rattle.flow_prefix.specs.Prefixes.{contains}
use Rattle.ipfix_element.specs.Element.{Element}
use Rattle.ipfix_template.specs.declared.field.FieldSpec.{FieldSpec}
use Rattle.ipfix_template.specs.DataRecord.{DataRecord}
use Rattle.policy_text.specs.declared.rule.Rule.{Rule}
use Rattle.policy_judge.specs.Occurrences.{sources, destinations}
use Rattle.policy_judge.specs.Match.{is_met, is_for, covers, is_same_element}
use Rattle.rule_table.specs.Marks.{named_element}

-- a record of an observation domain, judged by rules for the subscriber of a name
pub record Judged : Type 0 where
  pub rules : List Rule
  pub name : List ℕ
  pub domain : ℕ
  pub flow_record : DataRecord

-- some address is inside each prefix that the rule names
abbrev pub touches : DataRecord → Rule → Bool
touches r rule = is_met (λ prefix. list_any (contains prefix) (sources r)) rule.from && is_met (λ prefix. list_any (contains prefix) (destinations r)) rule.to

-- some field is of this element
abbrev pub has_element : List FieldSpec → Element → Bool
has_element fields e = list_any (λ f. is_same_element f.element e) fields

-- what each rule is so that matches the record or one of its fields, and many others aren't
abbrev pub may_match : List ℕ → ℕ → DataRecord → Rule → Bool
may_match name domain r rule = is_for name domain rule && (touches r rule && is_met (has_element r.template.fields) (named_element rule))

abbrev pub is_at : (Rule → Bool) → Option Rule → Bool
is_at test None = false
is_at test (Some rule) = test rule

-- whether the rule at a place passes
abbrev pub passes : (Rule → Bool) → List Rule → ℕ → Bool
passes test rules place = is_at test (slice_get rules place)

-- the places, ascending, of all rules that may match
pub record AreCandidates (judged : Judged) (places : List ℕ) : Type 0 where
  pub few : length judged.rules ≤ 4096
  pub ascending : IsNonDecreasing places
  pub all : (place : ℕ) → passes (may_match judged.name judged.domain judged.flow_record) judged.rules place ≡ true → Contains places place

-- the rule is for the subscriber and the domain, and the record's addresses are such as it needs
abbrev pub applies : List ℕ → ℕ → DataRecord → Rule → Bool
applies name domain r rule = is_for name domain rule && covers r rule

abbrev pub applies_in : Judged → Rule → Bool
applies_in judged rule = applies judged.name judged.domain judged.flow_record rule

-- each element that a rule on fields of this kind names is one that a field has
abbrev pub IsOfRecord : DataRecord → (Rule → Bool) → Type 0
IsOfRecord r kind = (rule : Rule) → kind rule ≡ true → is_met (has_element r.template.fields) (named_element rule) ≡ true

-- places of rules that apply: of each kind the first of these is the first of all rules that apply
pub record AreApplying (judged : Judged) (places : List ℕ) : Type 0 where
  pub few : length judged.rules ≤ 4096
  pub first : (kind : Rule → Bool) → IsOfRecord judged.flow_record kind → find (passes kind judged.rules) places ≡ position (λ rule. kind rule && applies_in judged rule) judged.rules
