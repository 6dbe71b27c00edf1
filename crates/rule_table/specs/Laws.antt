-- What keys are for.
use Rattle.std.specs.Prelude.{◌≡◌, ◌↔◌, ℕ, ◌<◌, ◌≤◌, List, length, map, Some, None, IfSome}
use Rattle.ipfix_template.specs.DataRecord.{DataRecord}
use Rattle.flow_prefix.specs.declared.prefix.Prefix.{Prefix}
use Rattle.flow_prefix.specs.Prefixes.{IsPrefix, contains}
use Rattle.policy_text.specs.declared.rule.Rule.{Rule}
use Rattle.policy_judge.specs.Occurrences.{sources, destinations}
use Rattle.policy_judge.specs.Match.{covers}
use Rattle.rule_table.specs.Cuts.{HasCuts, HasRuleCuts, most_cuts}
use Rattle.rule_table.specs.Classes.{class_key}

-- up to three values have a key, and more have none
abbrev pub KeyOfThree : Type 0
KeyOfThree = (cuts : List ℕ) (vs : List (List ℕ)) → length cuts ≤ most_cuts → (class_key cuts vs ≡ None) ↔ (3 < length vs)

-- of the values of one key, a prefix has the same ones inside
abbrev pub SameInside : Type 0
SameInside =
    (cuts : List ℕ) (prefix : Prefix) (vs ws : List (List ℕ)) (k : ℕ) → length cuts ≤ most_cuts → IsPrefix prefix → HasCuts cuts prefix
    → class_key cuts vs ≡ Some k → class_key cuts ws ≡ Some k → map (contains prefix) vs ≡ map (contains prefix) ws

-- two records have these keys, of their sources and of their destinations
pub record HaveKeys (cuts : List ℕ) (r s : DataRecord) (from to : ℕ) : Type 0 where
  pub one_from : class_key cuts (sources r) ≡ Some from
  pub other_from : class_key cuts (sources s) ≡ Some from
  pub one_to : class_key cuts (destinations r) ≡ Some to
  pub other_to : class_key cuts (destinations s) ≡ Some to

-- records of the same keys are where the same rules ask for them to be
abbrev pub SameCovers : Type 0
SameCovers =
    (cuts : List ℕ) (rule : Rule) (r s : DataRecord) (from to : ℕ) → length cuts ≤ most_cuts → IfSome rule.from IsPrefix → IfSome rule.to IsPrefix
    → HasRuleCuts cuts rule → HaveKeys cuts r s from to → covers r rule ≡ covers s rule
