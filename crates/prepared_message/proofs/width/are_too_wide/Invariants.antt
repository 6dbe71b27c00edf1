use Rattle.std.proofs.Common.{◌≡◌, ◌+◌, ◌≤◌, drop}
use Rattle.std.specs.Ordering.{nat_cmp}
use Rattle.std.specs.BTreeMap.{get}
use Rattle.prepared_message.specs.Widths.{values_by_widths, given_or, widths_in}
use Rattle.prepared_message.proofs.width.are_too_wide.Given as goal

abbrev pub invariant-items : goal.invariant-items
invariant-items l = record {
  counted : values_by_widths (given_or (get nat_cmp l.given) (widths_in l.fn.domain l.fn.templates)) (drop l.item-index l.fn.said) + l.fn.most
      ≡ values_by_widths (widths_in l.fn.domain l.fn.templates) l.fn.said + l.left;
  few : l.left ≤ l.fn.most;
}
