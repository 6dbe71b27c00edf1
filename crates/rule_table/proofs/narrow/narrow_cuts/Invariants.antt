use Rattle.std.proofs.Common.{◌≡◌, take}
use Rattle.rule_table.specs.Cuts.{narrow_cuts}
use Rattle.rule_table.proofs.narrow.narrow_cuts.Given as goal

abbrev pub invariant-loop-cut : goal.invariant-loop-cut
invariant-loop-cut l = l.narrow.items ≡ narrow_cuts (take l.cut-index l.cuts)
