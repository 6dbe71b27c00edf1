use Rattle.std.proofs.Common.{◌≡◌, ◌++◌, take}
use Rattle.rule_table.specs.Asked.{asked_of}
use Rattle.rule_table.proofs.asked.ask_all.Given as goal

abbrev pub invariant-loop-address : goal.invariant-loop-address
invariant-loop-address l = l.marks.items ≡ l.fn.marks.items ++ asked_of l.who l.side l.shapes (take l.address-index l.addresses)
