use Rattle.std.proofs.Common.{◌≡◌, ◌+◌, ◌<◌, ◌^◌, ◌++◌, List, length, take}
use Rattle.shared_mediator.specs.declared.kept.KeptEntry.{KeptEntry}
use Rattle.shared_mediator.specs.Marking.{AreMarked}
use Rattle.std.specs.List.{AllByRecursion}
use Rattle.shared_mediator.specs.Handles.{HasReceipt}
use Rattle.shared_mediator.proofs.closing.mark_admins.Given as goal

abbrev pub invariant-loop-admin : goal.invariant-loop-admin
invariant-loop-admin g l =
    (l.marks.from ≡ l.fn.marks.from)
    × ((handles : List (List KeptEntry)) → AreMarked l.fn.marks l.journal.entries handles → AreMarked l.marks l.journal.entries (handles ++ take l.admin-index l.admins))
    × AllByRecursion (AllByRecursion HasReceipt) (take l.admin-index l.admins)
    × (l.fn.first + length l.admins < 2 ^ 64 → l.handle ≡ l.fn.first + l.admin-index)
