use Rattle.std.proofs.Common.{◌≡◌, take}
use Rattle.std.specs.List.{flat_map}
use Rattle.rule_table.specs.Cuts.{cuts_of}
use Rattle.rule_table.proofs.cuts.listed_cuts.Given as goal

abbrev pub invariant-loop-rule : goal.invariant-loop-rule
invariant-loop-rule l = l.cuts.items ≡ flat_map cuts_of (take l.rule-index l.rules)
