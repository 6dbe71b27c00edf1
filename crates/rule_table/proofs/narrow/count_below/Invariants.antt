use Rattle.std.proofs.Common.{◌≡◌, ◌≤◌, take}
use Rattle.rule_table.specs.Classes.{class_of}
use Rattle.rule_table.proofs.narrow.count_below.Given as goal

abbrev pub invariant-loop-cut : goal.invariant-loop-cut
invariant-loop-cut l = record {
  within : l.count ≤ l.cut-index;
  class : l.count ≡ class_of (take l.cut-index l.cuts) l.address;
}
