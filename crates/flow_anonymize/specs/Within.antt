-- What is known of the verdicts on a record's fields: one for each, and no more bits are kept than a value has.
use Rattle.std.specs.Prelude.{◌≡◌, ℕ, ◌≤◌, ◌*◌, Bool, true, false, List, length}
use Rattle.std.specs.List.{zip, AllByRecursion}
use Rattle.ipfix_template.specs.declared.field.TheConstants.{MOST_FIELDS}
use Rattle.ipfix_template.specs.DataRecord.{DataRecord, IsSound}
use Rattle.policy_judge.specs.declared.verdict.ElementAction.{ElementAction}
use Rattle.policy_judge.specs.declared.verdict.ElementAction.TheVariants.{Keep, Remove, Truncate, Degrade}
use Rattle.policy_judge.specs.declared.verdict.ElementVerdict.{ElementVerdict}

abbrev pub FitsAction : List ℕ → ElementAction → Type 0
FitsAction value Keep = Unit {0}
FitsAction value Remove = Unit {0}
FitsAction value (Truncate bits) = bits ≤ 8 * length value
FitsAction value (Degrade seconds) = Unit {0}

abbrev pub FitActions : List (List ℕ) → List ElementVerdict → Type 0
FitActions values verdicts = AllByRecursion (λ p. FitsAction p.0 p.1.action) (zip values verdicts)

-- the field stays as it is
abbrev pub stays_whole : ElementAction → Bool
stays_whole Keep = true
stays_whole Remove = false
stays_whole (Truncate bits) = false
stays_whole (Degrade seconds) = false

abbrev pub is_whole : ElementVerdict → Bool
is_whole verdict = stays_whole verdict.action

pub record AreJudged (r : DataRecord) (verdicts : List ElementVerdict) : Type 0 where
  pub sound : IsSound r
  pub few : length verdicts ≤ MOST_FIELDS
  pub each : length verdicts ≡ length r.template.fields
  pub within : FitActions r.values verdicts
