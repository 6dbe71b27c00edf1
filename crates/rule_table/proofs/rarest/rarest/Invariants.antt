use Rattle.std.proofs.Common.{take}
use Rattle.rule_table.specs.Marks.{present}
use Rattle.rule_table.proofs.RarestLaws.{IsOneOf}
use Rattle.rule_table.proofs.rarest.rarest.Given as goal

abbrev pub invariant-loop-mark : goal.invariant-loop-mark
invariant-loop-mark l = IsOneOf (present (take l.mark-index l.marks)) l.best
