-- Rules that some policy has.
use Rattle.std.specs.Prelude.{List}
use Rattle.policy_text.specs.declared.rule.Rule.{Rule}
use Rattle.policy_text.specs.declared.version.Version.{Version}
use Rattle.policy_text.specs.Policies.{Aggregate}
use Rattle.policy_text.specs.Grammar.{AreRules}

-- each is one that a line may spell after these aggregates, in a text of this version
pub record AreOfPolicy (rules : List Rule) : Type 0 where
  pub version : Version
  pub aggregates : List Aggregate
  pub spelled : AreRules version aggregates rules
