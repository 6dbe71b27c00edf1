-- What is shown of a record, by steps over the octets of its values (RFC 7011, sections 3.4.3 and 7).
use Rattle.std.specs.Prelude.{◌≡◌, ◌==◌, ℕ, ◌+◌, ◌-◌, ◌/◌, ◌%◌, ◌||◌, min, not, true, List, [], ◌∷◌, ◌++◌, map, take, drop, unwrap_or, if◌then◌else◌}
use Rattle.sequences.specs.Octets.{AreOctets}
use Rattle.ipfix_octets.specs.Variable.{varlen_at}
use Rattle.ipfix_template.specs.declared.field.FieldSpec.{FieldSpec}
use Rattle.ipfix_template.specs.Template.{is_variable}
use Rattle.ipfix_template.specs.Values.{fit_fields, record_text}
use Rattle.policy_judge.specs.declared.verdict.ElementAction.{ElementAction}
use Rattle.policy_judge.specs.declared.verdict.ElementAction.TheVariants as on_field
use Rattle.policy_judge.specs.declared.verdict.ElementVerdict.{ElementVerdict}
use Rattle.flow_anonymize.specs.declared.change.Change.{Change}
use Rattle.flow_anonymize.specs.declared.change.Change.TheVariants as on_value
use Rattle.flow_anonymize.specs.declared.steps.Step.{Step}
use Rattle.flow_anonymize.specs.declared.steps.Steps.{Steps}
use Rattle.flow_anonymize.specs.declared.steps.Steps.TheVariants.{Fixed, Mixed}
use Rattle.flow_anonymize.specs.declared.steps.Step.TheVariants.{Octets, ShowVariable, SkipVariable, Changed, ChangedVariable}
use Rattle.flow_anonymize.specs.Changes.{changed_value}
use Rattle.flow_anonymize.specs.Stretches.{stretch, stretch_shown, behind_of}
use Rattle.flow_anonymize.specs.Remaining.{kept_fields, kept_values}

-- where the value of variable length at the front of octets starts, and its length; both are 0 where none stands there
abbrev pub variable_span : List ℕ → ℕ × ℕ
variable_span octets = unwrap_or (varlen_at octets) (0, 0)

-- the octets that a value of variable length takes, with its length before it
abbrev pub variable_octets : List ℕ → ℕ
variable_octets octets = (variable_span octets).0 + (variable_span octets).1

-- a value of variable length with a change, behind the length that stands before it
abbrev pub changed_text : Change → ℕ × ℕ → List ℕ → List ℕ
changed_text change span octets = take span.0 octets ++ changed_value change (take span.1 (drop span.0 octets))

-- what a step shows of octets; where they end before it, what is there
abbrev pub shown_at : Step → List ℕ → List ℕ
shown_at (Octets s) octets = stretch_shown s octets
shown_at ShowVariable octets = take (variable_octets octets) octets
shown_at SkipVariable octets = []
shown_at (Changed count change) octets = changed_value change (take count octets)
shown_at (ChangedVariable change) octets = changed_text change (variable_span octets) octets

-- the octets behind a step
abbrev pub behind : Step → List ℕ → List ℕ
behind (Octets s) octets = behind_of s octets
behind ShowVariable octets = drop (variable_octets octets) octets
behind SkipVariable octets = drop (variable_octets octets) octets
behind (Changed count change) octets = drop count octets
behind (ChangedVariable change) octets = drop (variable_octets octets) octets

-- what steps show of octets, each of those that are behind the steps before it
abbrev pub shown_by : List Step → List ℕ → List ℕ
shown_by [] octets = []
shown_by (step ∷ steps) octets = shown_at step octets ++ shown_by steps (behind step octets)

-- steps that show the same of all octets
abbrev pub ShowAlike : List Step → List Step → Type 0
ShowAlike some others = (octets : List ℕ) → shown_by some octets ≡ shown_by others octets

-- the steps, however they are kept
abbrev pub steps_in : Steps → List Step
steps_in (Fixed stretches) = map Octets stretches.items
steps_in (Mixed steps) = steps.items

-- the step for a field of which the values are changed
abbrev pub changed_step : FieldSpec → Change → Step
changed_step field change = if is_variable field then ChangedVariable change else Changed field.length change

-- the step for a field of which the values keep their first bits: where these fill octets, they stay as they stand
abbrev pub whole_octets : ℕ → ℕ → Step
whole_octets octets whole = Octets (stretch whole (octets - whole) 0)

abbrev pub truncating_step : FieldSpec → ℕ → Step
truncating_step field bits = if is_variable field || not (bits % 8 == 0) then changed_step field (on_value.Truncate bits) else whole_octets field.length (min field.length (bits / 8))

-- the step for a field, by what becomes of it
abbrev pub step_of : FieldSpec → ElementAction → Step
step_of field on_field.Keep = if is_variable field then ShowVariable else Octets (stretch field.length 0 0)
step_of field on_field.Remove = if is_variable field then SkipVariable else Octets (stretch 0 0 field.length)
step_of field (on_field.Truncate bits) = truncating_step field bits
step_of field (on_field.Degrade seconds) = changed_step field (on_value.Degrade seconds)

-- the steps are for records of these fields by these verdicts: of the text of values that fit, they show the text of what is left of them
abbrev pub AreSteps : List FieldSpec → List ElementVerdict → List Step → Type 0
AreSteps fields verdicts steps = (values : List (List ℕ)) → fit_fields fields values ≡ true → AreOctets (record_text fields values)
    → shown_by steps (record_text fields values) ≡ record_text (kept_fields fields verdicts) (kept_values values verdicts)
