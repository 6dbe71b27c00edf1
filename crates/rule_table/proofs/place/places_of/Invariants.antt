use Rattle.std.proofs.Common.{◌≤◌, ◌*◌, IfSome}
use Rattle.rule_table.proofs.PlaceLaws.{IsStart, ArePlacesTo}
use Rattle.rule_table.proofs.place.places_of.Given as goal

abbrev pub invariant-loop-index : goal.invariant-loop-index
invariant-loop-index l = record {
  few : IfSome l.start (λ s. s ≤ 65535 * l.index);
  known : IsStart l.fields l.index l.start;
  shown : ArePlacesTo l.fn.side l.fields l.index l.places.items;
}
