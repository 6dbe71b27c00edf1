use Rattle.std.proofs.Common.{◌≡◌, ◌++◌, ◌∷◌, [], take}
use Rattle.rule_table.specs.Asked.{asked_elements}
use Rattle.rule_table.specs.Marks.{domain_mark}
use Rattle.rule_table.proofs.asked.ask.Given as goal

abbrev pub invariant-loop-field : goal.invariant-loop-field
invariant-loop-field l = l.marks.items ≡ l.fn.marks.items ++ l.who ∷ [] ++ domain_mark l.who l.domain ∷ [] ++ asked_elements l.who (take l.field-index l.fields)
