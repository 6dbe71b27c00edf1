use Rattle.std.proofs.Common.{◌≡◌, ◌++◌, take}
use Rattle.std.specs.List.{filter_map}
use Rattle.rule_table.specs.Asked.{asked_at}
use Rattle.rule_table.proofs.asked.ask_one.Given as goal

abbrev pub invariant-loop-shape : goal.invariant-loop-shape
invariant-loop-shape l = l.marks.items ≡ l.fn.marks.items ++ filter_map (asked_at l.who l.side l.address) (take l.shape-index l.shapes)
