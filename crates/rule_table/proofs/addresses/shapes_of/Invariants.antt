use Rattle.std.proofs.Common.{ℕ, ◌<◌, get_or, IfSome}
use Rattle.std.specs.List.{Contains}
use Rattle.policy_text.specs.declared.rule.Rule.{Rule}
use Rattle.rule_table.specs.Addresses.{shape_of, prefix_on}
use Rattle.rule_table.proofs.addresses.shapes_of.Given as goal

abbrev pub invariant-loop-rule : goal.invariant-loop-rule
invariant-loop-rule l = (k : ℕ) (d : Rule) → k < l.rule-index → IfSome (prefix_on l.side (get_or l.rules k d)) (λ prefix. Contains l.shapes.items (shape_of prefix))
