use Rattle.std.proofs.Common.{◌≡◌}
use Rattle.shared_mediator.proofs.MarkLaws.{IsMarking}
use Rattle.shared_mediator.proofs.marks.Marks.mark.Given as goal

abbrev pub invariant-loop-receipt : goal.invariant-loop-receipt
invariant-loop-receipt l = record {
  from : l.self.from ≡ l.fn.self.from;
  marking : IsMarking l.fn.self l.journal.entries l.kept l.receipt-index l.floor l.self.marks;
}
