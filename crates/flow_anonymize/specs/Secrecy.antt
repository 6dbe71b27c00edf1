-- What is denied to a subscriber changes nothing of what is disclosed to it: a law.
use Rattle.std.specs.Prelude.{◌≡◌, ℕ, ◌*◌, ◌-◌, ◌^◌, ◌/◌, List, length, map, Option, Some, None, slice_get}
use Rattle.std.specs.List.{AllByRecursion}
use Rattle.sequences.specs.Octets.{be_value}
use Rattle.flow_prefix.specs.declared.prefix.Prefix.{Prefix}
use Rattle.flow_prefix.specs.Prefixes.{contains}
use Rattle.ipfix_template.specs.DataRecord.{DataRecord}
use Rattle.policy_text.specs.declared.rule.Rule.{Rule}
use Rattle.policy_judge.specs.declared.verdict.ElementAction.{ElementAction}
use Rattle.policy_judge.specs.declared.verdict.ElementAction.TheVariants.{Keep, Remove, Truncate, Degrade}
use Rattle.policy_judge.specs.Occurrences.{sources, destinations}
use Rattle.policy_judge.specs.Verdicts.{element_verdict_of}
use Rattle.flow_anonymize.specs.Times.{step_of_time}
use Rattle.flow_anonymize.specs.Disclosed.{disclosure_of}

-- two values of a field that differ in what is denied at most: in all where it is removed, in the bits that are cut off where it is
-- truncated, and within one step of so many seconds where it is degraded
abbrev pub AreValuesAlike : ElementAction → List ℕ → List ℕ → Type 0
AreValuesAlike Keep v w = v ≡ w
AreValuesAlike Remove v w = Unit {0}
AreValuesAlike (Truncate bits) v w = (length v ≡ length w) × (be_value v / 2 ^ (8 * length v - bits) ≡ be_value w / 2 ^ (8 * length w - bits))
AreValuesAlike (Degrade seconds) v w = (length v ≡ length w) × (be_value v / step_of_time (length v) seconds ≡ be_value w / step_of_time (length w) seconds)

-- addresses of which each is inside the prefix where its other is
abbrev pub AreInsideAlike : List (List ℕ) → List (List ℕ) → Option Prefix → Type 0
AreInsideAlike vs ws None = Unit {0}
AreInsideAlike vs ws (Some prefix) = map (contains prefix) vs ≡ map (contains prefix) ws

-- the same for the source and destination addresses of two records, and the prefixes of a rule
abbrev pub AreCoveredAlike : DataRecord → DataRecord → Rule → Type 0
AreCoveredAlike r s rule = AreInsideAlike (sources r) (sources s) rule.from × AreInsideAlike (destinations r) (destinations s) rule.to

-- two records of one template that differ, for a subscriber, in what is denied to it at most, and whose addresses are inside the same prefixes of the rules
pub record AreAlike (name : List ℕ) (domain : ℕ) (rules : List Rule) (r s : DataRecord) : Type 0 where
  pub template : r.template ≡ s.template
  pub count : length r.values ≡ length s.values
  pub values : (place : ℕ) (v w : List ℕ) → slice_get r.values place ≡ Some v → slice_get s.values place ≡ Some w
      → AreValuesAlike (element_verdict_of name domain r place rules).action v w
  pub prefixes : AllByRecursion (AreCoveredAlike r s) rules

-- what is disclosed of the two is the same: record, removed fields, rules and reasons. (Of an aggregated record that is
-- the aggregate; what is counted there is not said here.)
abbrev pub DeniedIsSecret : Type 0
DeniedIsSecret = (name : List ℕ) (domain : ℕ) (rules : List Rule) (r s : DataRecord) → AreAlike name domain rules r s
    → disclosure_of name domain r rules ≡ disclosure_of name domain s rules
