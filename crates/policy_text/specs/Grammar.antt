-- What the type of a policy keeps: each rule and each aggregate is one that a line may spell after those before it.
use Rattle.std.specs.Prelude.{◌≡◌, ℕ, zero, suc, ◌<◌, ◌≤◌, ◌^◌, true, List, [], ◌∷◌, ◌++◌, length, Option, Some, None, IfSome}
use Rattle.std.specs.List.{AllByRecursion}
use Rattle.ipfix_element.specs.Element.{Element, IsElement}
use Rattle.ipfix_element.specs.Kinds.{kind_of}
use Rattle.flow_prefix.specs.Prefixes.{IsPrefix}
use Rattle.policy_text.specs.declared.rule.Rule.{Rule}
use Rattle.policy_text.specs.declared.rule.Action.{Action}
use Rattle.policy_text.specs.declared.rule.Action.TheVariants.{Pass, Withhold, Aggregate, Keep, Remove, Truncate, Degrade}
use Rattle.policy_text.specs.declared.version.Version.{Version}
use Rattle.policy_text.specs.Naming.{is_name}
use Rattle.policy_text.specs.Policies.{PolicyMeaning, has_degrade, IsRanged, Aggregate as Definition}
use Rattle.policy_text.specs.Classes.{place_of, width_at, is_time_at, is_key_kind}

-- the name of the aggregate at a place
abbrev pub name_at : List Definition → ℕ → List ℕ
name_at [] place = []
name_at (a ∷ rest) zero = a.name
name_at (a ∷ rest) (suc place) = name_at rest place

-- What an action needs: a rule on records has no element, an aggregate is defined, bits are within the width, and what is
-- degraded is a time, in a version that has it.
abbrev pub IsAction : Version → List Definition → Option Element → Action → Type 0
IsAction version aggregates element Pass = element ≡ None
IsAction version aggregates element Withhold = element ≡ None
IsAction version aggregates element (Aggregate place) =
    (element ≡ None) × (is_name (name_at aggregates place) ≡ true) × (place_of aggregates (name_at aggregates place) ≡ Some place)
IsAction version aggregates element Keep = Unit {0}
IsAction version aggregates element Remove = Unit {0}
IsAction version aggregates element (Truncate bits) = (width : ℕ) × (width_at element ≡ Some width) × (bits ≤ width) × (bits < 1000)
IsAction version aggregates element (Degrade seconds) = (has_degrade version ≡ true) × (is_time_at element ≡ true) × (1 ≤ seconds) × (seconds ≤ 86400)

-- a rule that a line may spell after these aggregates, in a text of this version
pub record IsRule (version : Version) (aggregates : List Definition) (r : Rule) : Type 0 where
  pub who : IfSome r.who (λ w. is_name w ≡ true)
  pub domain : IfSome r.domain (λ d. d < 2 ^ 32)
  pub from : IfSome r.from IsPrefix
  pub to : IfSome r.to IsPrefix
  pub element : IfSome r.element IsElement
  pub action : IsAction version aggregates r.element r.action

-- elements that a key may have: each of a kind for keys, none twice, at most 16
pub record IsKey (key : List Element) : Type 0 where
  pub elements : AllByRecursion IsElement key
  pub kinds : AllByRecursion (λ e. is_key_kind (kind_of e) ≡ true) key
  pub once : (before between after : List Element) (e : Element) → key ≡ before ++ e ∷ between ++ e ∷ after → ⊥
  pub few : length key ≤ 16

-- an aggregate that a line may spell after those before
pub record IsAggregate (before : List Definition) (a : Definition) : Type 0 where
  pub name : is_name a.name ≡ true
  pub other : place_of before a.name ≡ None
  pub key : IsKey a.key
  pub ranged : IsRanged (length a.key) a.interval a.grace

abbrev pub AreAggregates : List Definition → List Definition → Type 0
AreAggregates before [] = Unit {0}
AreAggregates before (a ∷ rest) = IsAggregate before a × AreAggregates (before ++ a ∷ []) rest

abbrev pub AreRules : Version → List Definition → List Rule → Type 0
AreRules version aggregates rules = AllByRecursion (λ r. IsRule version aggregates r) rules

-- a policy that a text may spell
pub record IsPolicy (policy : PolicyMeaning) : Type 0 where
  pub aggregates : AreAggregates [] policy.aggregates
  pub rules : AreRules policy.version policy.aggregates policy.rules
  pub few_aggregates : length policy.aggregates ≤ 256
  pub few_rules : length policy.rules ≤ 4096
