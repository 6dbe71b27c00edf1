-- What is decided of records side by side, and what is kept back of each of them alike. All of this is this project's own rule.
use Rattle.std.specs.Prelude.{◌≡◌, ℕ, ◌<◌, ◌≤◌, List, [], ◌∷◌, map}
use Rattle.std.specs.List.{AllByRecursion}
use Rattle.ipfix_template.specs.DataRecord.{DataRecord}
use Rattle.ipfix_records.specs.Runs.{RunOf}
use Rattle.disclosure_audit.specs.declared.entry.What.{What}
use Rattle.disclosure_audit.specs.declared.entry.What.TheVariants as what
use Rattle.disclosure_audit.specs.declared.entry.KeptBack.{KeptBack}
use Rattle.disclosure_audit.specs.Noting.{note_at}
use Rattle.flow_anonymize.specs.declared.disclosure.Disclosure.TheVariants.{Passed, Aggregated, Withheld}
use Rattle.flow_anonymize.specs.Outcome.{Decision, decision_of}
use Rattle.flow_anonymize.specs.Parts.{record_at}
use Rattle.mediator_history.specs.Auditing.{removed_of}
use Rattle.mediator_tables.specs.declared.served.Served.{Served}
use Rattle.mediator_shares.specs.InForce.{InForce}
use Rattle.mediator_shares.specs.Sharing.{outcome_by, added_by, noted_of_each}

-- what is decided of a record for one that is served
abbrev pub decision_for : ℕ → InForce → DataRecord → Served → Decision
decision_for domain f r who = decision_of (outcome_by domain f who.name.now r)

-- what a decision keeps back, whatever the record; where one counts in an aggregate, its record says more
abbrev pub kept_whatever : Decision → List What
kept_whatever (Passed kept removed) = removed_of removed
kept_whatever (Aggregated rule place) = []
kept_whatever (Withheld rule reason) = what.Withheld rule reason ∷ []

abbrev pub IsWhatever : Decision → Type 0
IsWhatever (Passed kept removed) = Unit {0}
IsWhatever (Aggregated rule place) = ⊥
IsWhatever (Withheld rule reason) = Unit {0}

abbrev pub kept_from : ℕ → What → KeptBack
kept_from sub what = record { sub = sub; what = what }

-- of each record from a place on that stands before another this is kept back, and none of them counts in an aggregate
pub record AreKeptAlike (domain : ℕ) (f : InForce) (run : RunOf) (from to : ℕ) (served : List Served) (each : List KeptBack) : Type 0 where
  pub notes : (index i : ℕ) → from ≤ i → i < to → map (note_at index) each ≡ noted_of_each domain f served (index, record_at run i)
  pub counts : (i : ℕ) → from ≤ i → i < to → AllByRecursion (λ who. added_by domain f who.name.now (record_at run i) ≡ []) served
