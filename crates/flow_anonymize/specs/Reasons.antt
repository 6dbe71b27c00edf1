-- For which reasons a policy's rules withhold a record: a law.
use Rattle.std.specs.Prelude.{ℕ, List}
use Rattle.ipfix_template.specs.DataRecord.{DataRecord}
use Rattle.policy_text.specs.declared.rule.Rule.{Rule}
use Rattle.disclosure_audit.specs.declared.reason.Reason.{Reason}
use Rattle.disclosure_audit.specs.declared.reason.Reason.TheVariants as because
use Rattle.flow_anonymize.specs.declared.disclosure.Disclosure.TheVariants.{Passed, Aggregated, Withheld}
use Rattle.flow_anonymize.specs.Outcome.{Outcome}
use Rattle.flow_anonymize.specs.Disclosed.{disclosure_of}

-- the others are found only where a record would be counted
abbrev pub IsOfRules : Reason → Type 0
IsOfRules because.Rule = Unit {0}
IsOfRules because.ScopeLost = Unit {0}
IsOfRules because.Empty = Unit {0}
IsOfRules because.NoTime = ⊥
IsOfRules because.NoKey = ⊥
IsOfRules because.Late = ⊥

abbrev pub IsByRules : Outcome → Type 0
IsByRules (Passed kept removed) = Unit {0}
IsByRules (Aggregated rule definition) = Unit {0}
IsByRules (Withheld rule reason) = IsOfRules reason

abbrev pub ReasonsAreOfRules : Type 0
ReasonsAreOfRules = (name : List ℕ) (domain : ℕ) (r : DataRecord) (rules : List Rule) → IsByRules (disclosure_of name domain r rules)
