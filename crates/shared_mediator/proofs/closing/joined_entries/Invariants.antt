use Rattle.std.proofs.Common.{◌≡◌, ◌+◌, length, sum_by}
use Rattle.shared_mediator.proofs.closing.joined_entries.Given as goal

abbrev pub invariant-loop-exporter : goal.invariant-loop-exporter
invariant-loop-exporter g l =
    (l.all.parts + length l.exporter-iterator.rest.items ≡ l.fn.left.parts + length l.fn.exporters.items)
    × (l.all.amount + sum_by (λ h. length h.kept) l.exporter-iterator.rest.items ≡ l.fn.left.amount + sum_by (λ h. length h.kept) l.fn.exporters.items)

abbrev pub invariant-loop-admin : goal.invariant-loop-admin
invariant-loop-admin g l =
    (l.all.parts + length l.admin-iterator.rest.items ≡ l.fn.left.parts + length l.fn.exporters.items + length l.fn.admins.items)
    × (l.all.amount + sum_by (λ kept. length kept) l.admin-iterator.rest.items ≡ l.fn.left.amount + sum_by (λ h. length h.kept) l.fn.exporters.items + sum_by (λ kept. length kept) l.fn.admins.items)
