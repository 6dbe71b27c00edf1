use Rattle.std.proofs.Common.{List, ℕ, ap, subst, ◌∙◌}
use Rattle.rule_table.specs.Classes.{class_of}
use Rattle.rule_table.specs.Heads.{AreHeads}
use Rattle.rule_table.proofs.classes.AddressClasses.of_rules.Goals as goal

pub invariant_of-result : goal.invariant_of-result
invariant_of-result c = record {
  sound = record { ascending = c.in_ok-cuts.ensures.ascending; few = c.in_ok-cuts.ensures.few };
  below = λ address low. c.in_ok-narrow.ensures address low ∙ ap (λ xs. class_of xs address) c.deref.ensures.value;
  by_head = subst (λ (xs : List ℕ). AreHeads xs 128 c.in_ok-heads.heads) c.deref-3.ensures.value c.in_ok-heads.ensures;
}
