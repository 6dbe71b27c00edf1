-- What passes is what the rules permit: a law, said of each place of the record that passes.
use Rattle.std.specs.Prelude.{◌≡◌, ℕ, ◌*◌, ◌-◌, ◌^◌, ◌%◌, not, List, length, map, filter, take, Some, slice_get}
use Rattle.std.specs.List.{enumerate_from, AllByRecursion}
use Rattle.sequences.specs.Octets.{be_value, AreOctets}
use Rattle.ipfix_element.specs.Element.{Element}
use Rattle.ipfix_template.specs.declared.field.FieldSpec.{FieldSpec}
use Rattle.ipfix_template.specs.DataRecord.{DataRecord, IsSound}
use Rattle.policy_text.specs.declared.rule.Rule.{Rule}
use Rattle.policy_judge.specs.declared.verdict.ElementAction.{ElementAction}
use Rattle.policy_judge.specs.declared.verdict.ElementAction.TheVariants.{Keep, Remove, Truncate, Degrade}
use Rattle.policy_judge.specs.declared.verdict.ElementVerdict.{ElementVerdict}
use Rattle.policy_judge.specs.Match.{matches_field}
use Rattle.policy_judge.specs.Verdicts.{first_rule, element_verdict_by}
use Rattle.disclosure_audit.specs.declared.entry.RemovedField.{RemovedField}
use Rattle.flow_anonymize.specs.declared.disclosure.Disclosure.TheVariants.{Passed}
use Rattle.flow_anonymize.specs.Times.{step_of_time}
use Rattle.flow_anonymize.specs.Remaining.{is_kept}
use Rattle.flow_anonymize.specs.Disclosed.{disclosure_of}

-- the verdict on the fields of an element: that of the first rule that matches them, and rule 0, which removes, where none does
abbrev pub verdict_on : List ℕ → ℕ → DataRecord → List Rule → Element → ElementVerdict
verdict_on name domain r rules element = element_verdict_by (first_rule (matches_field name domain r (Some element)) rules)

-- a value that may be shown: of a field that is kept; of one that is truncated, with no bit set behind the first ones; of one that
-- is degraded, a multiple of so many seconds
abbrev pub IsPermitted : ElementAction → List ℕ → Type 0
IsPermitted Keep value = Unit {0}
IsPermitted Remove value = ⊥
IsPermitted (Truncate bits) value = be_value value % 2 ^ (8 * length value - bits) ≡ 0
IsPermitted (Degrade seconds) value = be_value value % step_of_time (length value) seconds ≡ 0

-- what is so of a record that passes, and of the fields that are said to be removed from it
pub record ShowsPermitted (name : List ℕ) (domain : ℕ) (r : DataRecord) (rules : List Rule) (kept : DataRecord) (removed : List RemovedField) : Type 0 where
  -- at each place stands a field that its first rule doesn't remove, and of its value no more than that rule permits
  pub each : (place : ℕ) (field : FieldSpec) (value : List ℕ) → slice_get kept.template.fields place ≡ Some field → slice_get kept.values place ≡ Some value
      → IsPermitted (verdict_on name domain r rules field.element).action value
  -- the fields are all those that no rule removes, in their order
  pub fields : kept.template.fields ≡ filter (λ field. is_kept (verdict_on name domain r rules field.element)) r.template.fields
  -- the scope fields among them are the record's own
  pub scope : kept.template.scope ≡ r.template.scope
  pub scope_fields : take r.template.scope kept.template.fields ≡ take r.template.scope r.template.fields
  -- and the others are those that are said to be removed, each with the first rule that removes it
  pub others : removed ≡ map (λ p. record { place = p.0; rule = (verdict_on name domain r rules p.1.element).rule })
      (filter (λ p. not (is_kept (verdict_on name domain r rules p.1.element))) (enumerate_from 0 r.template.fields))

abbrev pub OnlyPermittedPasses : Type 0
OnlyPermittedPasses = (name : List ℕ) (domain : ℕ) (r : DataRecord) (rules : List Rule) (kept : DataRecord) (removed : List RemovedField)
    → AllByRecursion AreOctets r.values → disclosure_of name domain r rules ≡ Passed kept removed → ShowsPermitted name domain r rules kept removed

-- what passes of a sound record is a sound record
abbrev pub PassedIsSound : Type 0
PassedIsSound = (name : List ℕ) (domain : ℕ) (r : DataRecord) (rules : List Rule) (kept : DataRecord) (removed : List RemovedField)
    → IsSound r → disclosure_of name domain r rules ≡ Passed kept removed → IsSound kept
