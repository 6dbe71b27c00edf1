use Rattle.std.proofs.Common.{◌≡◌, ◌++◌, List, map, take}
use Rattle.shared_mediator.specs.declared.kept.KeptEntry.{KeptEntry}
use Rattle.shared_mediator.specs.Marking.{AreMarked}
use Rattle.std.specs.List.{AllByRecursion}
use Rattle.shared_mediator.specs.Closing.{KeepsMessages}
use Rattle.shared_mediator.proofs.closing.mark_exporters.Given as goal

abbrev pub invariant-loop-exporter : goal.invariant-loop-exporter
invariant-loop-exporter g l =
    (l.marks.from ≡ l.fn.marks.from)
    × ((handles : List (List KeptEntry)) → AreMarked l.fn.marks l.journal.entries handles → AreMarked l.marks l.journal.entries (handles ++ map (λ h. h.kept) (take l.exporter-index l.exporters)))
    × AllByRecursion KeepsMessages (take l.exporter-index l.exporters)
    × (l.handle ≡ l.exporter-index)
