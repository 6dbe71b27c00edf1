-- What is left of a record's fields, by the verdict on each (RFC 6235: truncation, in sections 4.1.1 and 4.2.1, precision
-- degradation, in section 4.3.1, and black-marker anonymization, which removes a field).
use Rattle.std.specs.Prelude.{ℕ, Bool, true, false, not, List, [], length, map, filter}
use Rattle.std.specs.List.{zip, enumerate_from, range_with_len}
use Rattle.ipfix_template.specs.declared.field.FieldSpec.{FieldSpec}
use Rattle.ipfix_template.specs.DataRecord.{DataRecord}
use Rattle.flow_prefix.specs.Bits.{kept_octets}
use Rattle.policy_text.specs.declared.rule.Rule.{Rule}
use Rattle.policy_judge.specs.declared.verdict.ElementAction.{ElementAction}
use Rattle.policy_judge.specs.declared.verdict.ElementAction.TheVariants.{Keep, Remove, Truncate, Degrade}
use Rattle.policy_judge.specs.declared.verdict.ElementVerdict.{ElementVerdict}
use Rattle.policy_judge.specs.Verdicts.{element_verdict_of}
use Rattle.disclosure_audit.specs.declared.entry.RemovedField.{RemovedField}
use Rattle.flow_anonymize.specs.Times.{degraded_octets}

-- the places of a record's fields
abbrev pub places_of : DataRecord → List ℕ
places_of r = range_with_len 0 (length r.template.fields)

-- the verdict on each field of a record, for a subscriber
abbrev pub verdicts_of : List ℕ → ℕ → DataRecord → List Rule → List ElementVerdict
verdicts_of name domain r rules = map (λ place. element_verdict_of name domain r place rules) (places_of r)

-- the field stays: as it is, truncated or degraded
abbrev pub keeps : ElementAction → Bool
keeps Keep = true
keeps Remove = false
keeps (Truncate bits) = true
keeps (Degrade seconds) = true

abbrev pub is_kept : ElementVerdict → Bool
is_kept verdict = keeps verdict.action

-- what is shown of a value: all of it, nothing, its first bits with the others 0, or a time that is lowered
abbrev pub shown_value : ElementAction → List ℕ → List ℕ
shown_value Keep value = value
shown_value Remove value = []
shown_value (Truncate bits) value = kept_octets bits value
shown_value (Degrade seconds) value = degraded_octets seconds value

-- the fields that stay, in their order
abbrev pub kept_fields : List FieldSpec → List ElementVerdict → List FieldSpec
kept_fields fields verdicts = map (λ p. p.0) (filter (λ p. is_kept p.1) (zip fields verdicts))

-- what is shown of the values of the fields that stay
abbrev pub kept_values : List (List ℕ) → List ElementVerdict → List (List ℕ)
kept_values values verdicts = map (λ p. shown_value p.1.action p.0) (filter (λ p. is_kept p.1) (zip values verdicts))

-- the places of the fields that are left out, each with the number of its rule
abbrev pub removed_fields : List ElementVerdict → List RemovedField
removed_fields verdicts = map (λ p. record { place = p.0; rule = p.1.rule }) (filter (λ p. not (is_kept p.1)) (enumerate_from 0 verdicts))
