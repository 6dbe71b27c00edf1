-- Where prefixes begin and end among all addresses, which stand in one row: a cut is an address behind which a prefix
-- begins, or ends.
use Rattle.std.specs.Prelude.{ℕ, ◌+◌, ◌-◌, ◌^◌, ◌<◌, ◌≤◌, List, [], ◌∷◌, ◌++◌, length, min, filter, Option, Some, None, IfSome, nat_lt, if◌then◌else◌}
use Rattle.std.specs.List.{Contains, AllByRecursion}
use Rattle.std.specs.List.Sorted.{IsNonDecreasing}
use Rattle.flow_prefix.specs.declared.prefix.Prefix.{Prefix}
use Rattle.flow_prefix.specs.declared.prefix.Prefix.TheVariants.{V4, V6}
use Rattle.flow_prefix.specs.Net.{Net}
use Rattle.policy_text.specs.declared.rule.Rule.{Rule}
use Rattle.rule_table.specs.declared.cuts.Bounds.{Bounds}

-- the first and the last address, of w bits, inside; the sum has at most 128 bits for each prefix (IsPrefix)
abbrev pub bounds_in : ℕ → Net → Bounds
bounds_in w net = record { first = net.address; last = min (net.address + (2 ^ (w - net.length) - 1)) (2 ^ 128 - 1) }

abbrev pub bounds_of : Prefix → Bounds
bounds_of (V4 net) = bounds_in 32 net
bounds_of (V6 net) = bounds_in 128 net

-- before the first address, unless that is 0, and behind the last
abbrev pub cuts_at : Bounds → List ℕ
cuts_at bounds = if nat_lt 0 bounds.first then (bounds.first - 1) ∷ bounds.last ∷ [] else bounds.last ∷ []

abbrev pub cuts_named : Option Prefix → List ℕ
cuts_named None = []
cuts_named (Some prefix) = cuts_at (bounds_of prefix)

-- those of both prefixes that a rule may name
abbrev pub cuts_of : Rule → List ℕ
cuts_of rule = cuts_named rule.from ++ cuts_named rule.to

-- the cuts of a prefix are among these
pub record HasCuts (cuts : List ℕ) (prefix : Prefix) : Type 0 where
  pub before : 0 < (bounds_of prefix).first → Contains cuts ((bounds_of prefix).first - 1)
  pub last : Contains cuts (bounds_of prefix).last

-- the cuts of each prefix that the rule names are among these
pub record HasRuleCuts (cuts : List ℕ) (rule : Rule) : Type 0 where
  pub from : IfSome rule.from (HasCuts cuts)
  pub to : IfSome rule.to (HasCuts cuts)

abbrev pub HaveCuts : List ℕ → List Rule → Type 0
HaveCuts cuts rules = AllByRecursion (HasRuleCuts cuts) rules

-- the most cuts there are: four for each of 4096 rules
abbrev pub most_cuts : ℕ
most_cuts = 16384

pub record AreCuts (cuts : List ℕ) : Type 0 where
  pub ascending : IsNonDecreasing cuts
  pub few : length cuts ≤ most_cuts

-- those below 2^32, where the addresses of IPv4 stand
abbrev pub narrow_cuts : List ℕ → List ℕ
narrow_cuts cuts = filter (λ cut. nat_lt cut (2 ^ 32)) cuts
