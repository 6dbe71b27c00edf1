-- What becomes of all records of one template for which the verdicts are the same, whatever their values.
use Rattle.std.specs.Prelude.{◌≡◌, ℕ, List, length, Option, Some, None}
use Rattle.std.specs.Arc.{arc_value}
use Rattle.ipfix_template.specs.declared.field.FieldSpec.{FieldSpec}
use Rattle.ipfix_template.specs.declared.template.Template.{Template}
use Rattle.ipfix_template.specs.DataRecord.{DataRecord, IsSound}
use Rattle.policy_judge.specs.declared.verdict.RecordVerdict.{RecordVerdict}
use Rattle.policy_judge.specs.declared.verdict.ElementVerdict.{ElementVerdict}
use Rattle.flow_anonymize.specs.declared.steps.Step.{Step}
use Rattle.flow_anonymize.specs.declared.disclosure.Disclosure.{Disclosure}
use Rattle.flow_anonymize.specs.declared.disclosure.Disclosure.TheVariants.{Passed, Aggregated, Withheld}
use Rattle.flow_anonymize.specs.declared.plan.Passing.{Passing}
use Rattle.flow_anonymize.specs.Outcome.{Outcome}
use Rattle.flow_anonymize.specs.Remaining.{kept_fields, kept_values}
use Rattle.flow_anonymize.specs.Within.{FitActions}
use Rattle.flow_anonymize.specs.Steps.{AreSteps, steps_in}
use Rattle.flow_anonymize.specs.Disclosed.{transformed, by_verdict}

abbrev pub Plan : Type 0
Plan = Disclosure Passing

-- what is shown of a record with these values
abbrev pub passing_record : Passing → List (List ℕ) → DataRecord
passing_record passing values = record { template = arc_value passing.template; values = kept_values values passing.verdicts.items }

-- what a plan makes of a record with these values
abbrev pub planned : Plan → List (List ℕ) → Outcome
planned (Passed passing removed) values = Passed (passing_record passing values) removed
planned (Aggregated rule definition) values = Aggregated rule definition
planned (Withheld rule reason) values = Withheld rule reason

-- what is shown of a record has these fields of its, and is a record; no more bits are kept than its values have, and the
-- steps show it of the record's text
pub record ShowsRecord (r : DataRecord) (t : Template) (verdicts : List ElementVerdict) (steps : List Step) : Type 0 where
  pub each : length verdicts ≡ length r.template.fields
  pub within : FitActions r.values verdicts
  pub fields : t.fields ≡ kept_fields r.template.fields verdicts
  pub sound : IsSound (record { template = t; values = kept_values r.values verdicts })
  pub by_steps : AreSteps r.template.fields verdicts steps

-- what a plan needs of a record, if something of it is shown
abbrev pub IsShowable : Plan → DataRecord → Type 0
IsShowable (Passed passing removed) r = ShowsRecord r (arc_value passing.template) passing.verdicts.items (steps_in passing.steps)
IsShowable (Aggregated rule definition) r = Unit {0}
IsShowable (Withheld rule reason) r = Unit {0}

-- nothing is shown of the record itself
abbrev pub ShowsNone : Plan → Type 0
ShowsNone (Passed passing removed) = ⊥
ShowsNone (Aggregated rule definition) = Unit {0}
ShowsNone (Withheld rule reason) = Unit {0}

-- what is shown of records with these fields is shown by these verdicts, and by steps for them
abbrev pub ShowsBy : List FieldSpec → List ElementVerdict → Plan → Type 0
ShowsBy fields verdicts (Passed passing removed) = (passing.verdicts.items ≡ verdicts) × AreSteps fields verdicts (steps_in passing.steps)
ShowsBy fields verdicts (Aggregated rule definition) = Unit {0}
ShowsBy fields verdicts (Withheld rule reason) = Unit {0}

-- the plan for records of a template, by the verdict on the record and those on its fields
pub record IsPlanFrom (t : Template) (on_record : RecordVerdict) (on_fields : List ElementVerdict) (plan : Plan) : Type 0 where
  pub leaves : (values : List (List ℕ)) → planned plan values ≡ by_verdict on_record (transformed (record { template = t; values = values }) on_fields)
  pub by : ShowsBy t.fields on_fields plan

-- the same for records that pass
pub record IsPassing (t : Template) (on_fields : List ElementVerdict) (plan : Plan) : Type 0 where
  pub leaves : (values : List (List ℕ)) → planned plan values ≡ transformed (record { template = t; values = values }) on_fields
  pub by : ShowsBy t.fields on_fields plan

-- the template of what is shown of records
abbrev pub shown_template : Plan → Option Template
shown_template (Passed passing removed) = Some (arc_value passing.template)
shown_template (Aggregated rule definition) = None
shown_template (Withheld rule reason) = None
