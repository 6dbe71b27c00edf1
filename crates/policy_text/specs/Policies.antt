-- What a policy is.
use Rattle.std.specs.Prelude.{ℕ, ◌≤◌, Bool, true, false, List, [], ◌∷◌, ◌++◌}
use Rattle.ipfix_element.specs.Element.{Element}
use Rattle.policy_text.specs.declared.rule.Rule.{Rule}
use Rattle.policy_text.specs.declared.version.Version.{Version}
use Rattle.policy_text.specs.declared.version.Version.TheVariants.{One, Two}

-- whether a version has rules that degrade times
abbrev pub has_degrade : Version → Bool
has_degrade One = false
has_degrade Two = true

-- an aggregate's definition: its key elements, and its seconds
pub record Aggregate : Type 0 where
  pub name : List ℕ
  pub key : List Element
  pub interval : ℕ
  pub grace : ℕ

-- the number of key elements
abbrev pub IsKeyLength : ℕ → Type 0
IsKeyLength n = (1 ≤ n) × (n ≤ 16)

-- the ranges of an aggregate's seconds, and of the number of its key elements
pub record IsRanged (key interval grace : ℕ) : Type 0 where
  pub elements : IsKeyLength key
  pub interval_low : 1 ≤ interval
  pub interval_high : interval ≤ 86400
  pub grace_high : grace ≤ 86400

-- the version that the header names, and the aggregates and the rules in the order of the text
pub record PolicyMeaning : Type 0 where
  pub version : Version
  pub aggregates : List Aggregate
  pub rules : List Rule

-- the policy of a header alone
abbrev pub without_lines : Version → PolicyMeaning
without_lines version = record { version = version; aggregates = []; rules = [] }

-- the policy where none is given, that of `policy 1` alone
abbrev pub nothing : PolicyMeaning
nothing = without_lines One

abbrev pub with_aggregate : PolicyMeaning → Aggregate → PolicyMeaning
with_aggregate policy a = record { version = policy.version; aggregates = policy.aggregates ++ a ∷ []; rules = policy.rules }

abbrev pub with_rule : PolicyMeaning → Rule → PolicyMeaning
with_rule policy rule = record { version = policy.version; aggregates = policy.aggregates; rules = policy.rules ++ rule ∷ [] }
