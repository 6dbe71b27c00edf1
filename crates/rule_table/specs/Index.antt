-- The index of a list of rules.
use Rattle.std.specs.Prelude.{◌≡◌, ℕ, ◌+◌, ◌*◌, ◌^◌, ◌≤◌, List, length, Some, IfSome, slice_get}
use Rattle.std.specs.List.{All, Contains}
use Rattle.std.specs.List.Sorted.{IsNonDecreasing}
use Rattle.policy_text.specs.declared.rule.Rule.{Rule}
use Rattle.policy_judge.specs.declared.occurrences.Side.{Side}
use Rattle.policy_judge.specs.declared.occurrences.Side.TheVariants.{Source, Destination}
use Rattle.rule_table.specs.declared.addresses.Shape.{Shape}
use Rattle.rule_table.specs.Addresses.{shape_of, prefix_on}
use Rattle.rule_table.specs.Marks.{marks_of}

-- a mark, with the place of a rule that stands under it, as one number
abbrev pub entry : ℕ → ℕ → ℕ
entry mark place = mark * 2 ^ 64 + place

-- a rule has the entry of its place under one of its own marks
pub record EntryStands (entries : List ℕ) (place : ℕ) (rule : Rule) : Type 0 where
  pub mark : ℕ
  pub own : Contains (marks_of rule) mark
  pub there : Contains entries (entry mark place)

-- each rule has that
abbrev pub StandEach : List Rule → List ℕ → Type 0
StandEach rules entries = (place : ℕ) (rule : Rule) → slice_get rules place ≡ Some rule → EntryStands entries place rule

-- each prefix that the rules name on this side has one of these shapes
abbrev pub HaveShapes : Side → List Rule → List Shape → Type 0
HaveShapes side rules shapes = All (λ rule. IfSome (prefix_on side rule) (λ prefix. Contains shapes (shape_of prefix))) rules

-- the entries, ascending, under one of its marks for each rule, and the shapes of the prefixes of each side
pub record IsIndex (rules : List Rule) (entries : List ℕ) (sources destinations : List Shape) : Type 0 where
  pub few : length rules ≤ 4096
  pub each : StandEach rules entries
  pub ascending : IsNonDecreasing entries
  pub from : HaveShapes Source rules sources
  pub to : HaveShapes Destination rules destinations
